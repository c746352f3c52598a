-- The words of the command line.
use Rattle.std.specs.Prelude.{◌≡◌, ℕ, ◌%◌, ◌^◌, Bool, true, false, List, ℤ, Ok, codes, nat_eq}
use Rattle.std.specs.List.{starts_with}
use Rattle.std.proofs.Common.{of_z}
use Rattle.std.specs.Int.{w64}
use Rattle.std.specs.Str.Parse.{ParsesUnsigned, ParsesSigned}
use Rattle.values.specs.Low.{signed31}
use Rattle.values.specs.declared.kinds.Value.{Value}
use Rattle.values.specs.declared.kinds.Value.TheVariants.{Integer}
use Rattle.values.specs.declared.small.SmallInteger.{SmallInteger}
use Rattle.planning.specs.declared.options.Word.{Word}
use Rattle.planning.specs.declared.options.Word.TheVariants.{Trace, Trusted, Steps, Argument, Path, Unknown}

-- a text begins with two dashes
abbrev pub dashed : List ℕ → Bool
dashed w = starts_with nat_eq w (codes "--")

-- a text is none of the options
pub record NoOption (w : List ℕ) : Type 0 where
  pub trace : w ≡ codes "--trace" → ⊥
  pub trusted : w ≡ codes "--trusted" → ⊥
  pub steps : w ≡ codes "--steps" → ⊥
  pub argument : w ≡ codes "--argument" → ⊥

-- what a text is
abbrev pub Is : List ℕ → Word → Type 0
Is w Trace = w ≡ codes "--trace"
Is w Trusted = w ≡ codes "--trusted"
Is w Steps = w ≡ codes "--steps"
Is w Argument = w ≡ codes "--argument"
Is w Path = NoOption w × (dashed w ≡ false)
Is w Unknown = NoOption w × (dashed w ≡ true)

-- the low 31 bits of a number of 64 bits, signed
abbrev pub argument_of : ℤ → ℤ
argument_of z = signed31 (of_z w64 z % 2 ^ 31)

-- an argument is the small integer of a number's low bits
abbrev pub ArgumentOf : ℤ → Value → Type 0
ArgumentOf z v = (s : SmallInteger) × (v ≡ Integer s) × (s.value ≡ argument_of z)

-- a text is a count in decimal, below 2 ^ 64
abbrev pub Count : List ℕ → ℕ → Type 0
Count w n = ParsesUnsigned {E = Unit {0}} 64 10 w (Ok n)

-- a text is a number in decimal that fits in 64 bits, signed
abbrev pub Number : List ℕ → ℤ → Type 0
Number w z = ParsesSigned {E = Unit {0}} w64 10 w (Ok z)
