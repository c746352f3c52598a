-- As many marks as cells.
use Rattle.std.proofs.Common.{◌≡◌, List, map, length, sym}
use Rattle.std.proofs.lemmas.List.{length-map}
use Rattle.hosts.specs.Meaning.{Cell}

pub marks_length : (cs : List Cell) → length cs ≡ length (map (λ (c : Cell). c.trusted) cs)
marks_length cs = sym (length-map cs _)
