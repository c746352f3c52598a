use Rattle.std.proofs.Common.{ℕ, ◌≡◌, ◌+◌, List, take, IfSome, subst}
use Rattle.listing.specs.declared.reading.TheConstants.{MAX_PARCEL}
use Rattle.listing.proofs.Cutting.{read_cut, read_settled}
use Rattle.listing.proofs.reading.read_parcel.Given.{Over}
use Rattle.listing.proofs.reading.read_parcel.Goals as goal
use Rattle.listing.proofs.reading.read_parcel.Goals.{After-drop}

cut : (g : Over) (c : After-drop g) → IfSome (g.R.Read.remaining c.args.input) (λ all. c.read_to_end.new.buf.items ≡ take (MAX_PARCEL + 1) all)
cut g c =
    subst (λ i. IfSome (g.R.Read.remaining i) (λ (all : List ℕ). c.read_to_end.new.buf.items ≡ take (MAX_PARCEL + 1) all)) c.take.ensures.inner
    (read_cut (g.R.Read.remaining c.take.result.inner) c.take.result.limit c.new-parcel.result.items c.read_to_end.new.buf.items
    c.new-parcel.ensures.items c.take.ensures.limit c.in_ok-read_to_end.ensures.bytes)

pub returns-clause-cut : goal.returns-clause-cut
returns-clause-cut g c = cut g c

pub returns-clause-settles : goal.returns-clause-settles
returns-clause-settles g c = read_settled (g.R.Read.remaining c.args.input) c.read_to_end.new.buf.items (cut g c)
