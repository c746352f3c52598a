-- The number and the stage of every rule.
use Rattle.std.specs.Prelude.{ℕ, List, ◌++◌, codes, decimal}
use Rattle.values.specs.declared.faults.Rule.{Rule}
use Rattle.values.specs.declared.faults.Rule.TheVariants.{HeaderShort, KindUnknown, LiteralsTooMany, CodeTooLong, LengthWrong, FlagsReserved, LocalsOverSlots, LiteralWrong, BindingMissing, ListShort, CodeCut, ExtensionFourth, OpcodeUnknown, OperandWrong, CleanBlock, StoreTrusted, ReturnForeign, LandingWrong, ClosureAlone, HeightLow, HeightOver, FallsOffEnd, HeightsDiffer, ArgumentsDiffer, FrameShort, RunNotLive, CountsDiffer, StepFrameShort, CellMissing, FileShort, CellsTooMany, FileLength, CellWrong}
use Rattle.values.specs.declared.faults.Stage.{Stage}
use Rattle.values.specs.declared.faults.Stage.TheVariants.{Header, Flags, Literals, Lists, Encoding, Heights, Opening, Step, Host, WeekFile}
use Rattle.values.specs.declared.faults.Fault.{Fault}

-- the number that a person reads
abbrev pub rule_number : Rule → ℕ
rule_number HeaderShort = 1
rule_number KindUnknown = 2
rule_number LiteralsTooMany = 3
rule_number CodeTooLong = 3
rule_number LengthWrong = 4
rule_number FlagsReserved = 6
rule_number LocalsOverSlots = 7
rule_number LiteralWrong = 9
rule_number BindingMissing = 10
rule_number ListShort = 11
rule_number CodeCut = 12
rule_number ExtensionFourth = 13
rule_number OpcodeUnknown = 14
rule_number OperandWrong = 15
rule_number CleanBlock = 16
rule_number StoreTrusted = 17
rule_number ReturnForeign = 18
rule_number LandingWrong = 19
rule_number ClosureAlone = 20
rule_number HeightLow = 21
rule_number HeightOver = 22
rule_number FallsOffEnd = 23
rule_number HeightsDiffer = 24
rule_number ArgumentsDiffer = 25
rule_number FrameShort = 26
rule_number RunNotLive = 27
rule_number CountsDiffer = 28
rule_number StepFrameShort = 26
rule_number CellMissing = 29
rule_number FileShort = 30
rule_number CellsTooMany = 31
rule_number FileLength = 32
rule_number CellWrong = 34

-- when it is found: every rule that is not named here is one of the encoding
abbrev pub rule_stage : Rule → Stage
rule_stage HeaderShort = Header
rule_stage KindUnknown = Header
rule_stage LiteralsTooMany = Header
rule_stage CodeTooLong = Header
rule_stage LengthWrong = Header
rule_stage FlagsReserved = Flags
rule_stage LocalsOverSlots = Flags
rule_stage LiteralWrong = Literals
rule_stage BindingMissing = Literals
rule_stage ListShort = Lists
rule_stage HeightLow = Heights
rule_stage HeightOver = Heights
rule_stage FallsOffEnd = Heights
rule_stage HeightsDiffer = Heights
rule_stage ArgumentsDiffer = Opening
rule_stage FrameShort = Opening
rule_stage RunNotLive = Step
rule_stage CountsDiffer = Step
rule_stage StepFrameShort = Step
rule_stage CellMissing = Host
rule_stage FileShort = WeekFile
rule_stage CellsTooMany = WeekFile
rule_stage FileLength = WeekFile
rule_stage CellWrong = WeekFile
rule_stage _ = Encoding

-- a rule broken at a place
abbrev pub fault : Rule → ℕ → Fault
fault r p = record { rule = r; place = p }

-- a fault for a person: that it refuses, its number, and where it was found
abbrev pub fault_text : Fault → List ℕ
fault_text f =
    codes "refused " ++ (decimal (rule_number f.rule) ++ (codes " at " ++ decimal f.place))
