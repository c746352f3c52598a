use Rattle.std.proofs.Common.{sym, ap, ◌∙◌, arith, w32, w64, SFits, to_z, of_z}
use Rattle.std.specs.Option.{ok_or}
use Rattle.std.proofs.lemmas.Int.{ints, to_z-of_z}
use Rattle.values.proofs.Smalls.{small_is}
use Rattle.values.proofs.small.making.SmallIntegerTryFromI64.try_from.Goals as goal

pub returns-then-n-lt1073741824 : goal.returns-then-n-lt1073741824
returns-then-n-lt1073741824 c =
    let n = c.args.n in
    let wide = to_z-of_z w64 n c.ranges.n in
    let fits : SFits w32 n = omega (arith, ints) in
    let same = ap (λ z. to_z w32 (of_z w32 z)) wide ∙ to_z-of_z w32 n fits in
    ap (λ o. ok_or o (record { 0 = n })) (sym (small_is _ _ same))
