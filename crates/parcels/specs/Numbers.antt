-- The numbers of the format.
use Rattle.std.specs.Prelude.{◌≡◌}
use Rattle.parcels.specs.declared.layout.TheConstants.{HEADER_BYTES, MAX_LITERALS, MAX_CODE, MAX_SLOTS}
use Rattle.parcels.specs.declared.literals.TheConstants.{LITERAL_BYTES, SELECTOR, BINDING}
use Rattle.parcels.specs.declared.opcodes.TheConstants.{INTEGER_LIMIT, SPECIAL_COUNT}
use Rattle.parcels.specs.declared.reading.TheConstants.{PAIR_BYTES, EXTENSION, MAX_EXTENSIONS}

-- what each number of the format is, by the name that it has in the code
pub record FormatNumbers : Type 0 where
  -- the bytes of a header, of a literal and of a pair
  pub header_bytes : HEADER_BYTES ≡ 10
  pub literal_bytes : LITERAL_BYTES ≡ 6
  pub pair_bytes : PAIR_BYTES ≡ 2
  -- the most literals, bytes of code and slots
  pub max_literals : MAX_LITERALS ≡ 1024
  pub max_code : MAX_CODE ≡ 4096
  pub max_slots : MAX_SLOTS ≡ 252
  -- the opcode of an extension pair, and how many an instruction may have
  pub extension : EXTENSION ≡ 55
  pub max_extensions : MAX_EXTENSIONS ≡ 3
  -- the operands of opcodes 44 and 45 are below these
  pub integer_limit : INTEGER_LIMIT ≡ 536870912
  pub special_count : SPECIAL_COUNT ≡ 3
  -- the kinds of the literals that are no values
  pub selector : SELECTOR ≡ 7
  pub binding : BINDING ≡ 8
