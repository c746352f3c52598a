use Rattle.std.proofs.Common.{◌<◌, ◌^◌, vec_items, sym, ap, ◌∙◌, arith}
use Rattle.std.proofs.lemmas.List.{with_items_is}
use Rattle.std.proofs.lemmas.List.Elements.{All-same}
use Rattle.week_file.specs.Cells.{written}
use Rattle.week_file.specs.Files.{judged_header}
use Rattle.week_file.proofs.Writes.{header_written}
use Rattle.week_file.proofs.file.WeekFile.put.Goals as goal

pub invariant_of-self : goal.invariant_of-self
invariant_of-self c =
    let before = c.args.self.now.bytes in
    let whole = with_items_is before c.write_value.new.bytes (omega arith) in
    let same = whole ∙ c.write_value.ensures.written
    ∙ ap (λ l. written l c.args.place c.args.v) c.deref_mut.ensures.value in
    let stays = header_written (vec_items before) c.args.place c.args.v c.requires in
    record { fit = All-same (λ x. x < 2 ^ 8) _ _ whole c.write_value.ensures.fit; known = c.args.self.now.known ∙ sym (ap judged_header same ∙ stays) }
