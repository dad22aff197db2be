-- What a cursor shows.
use Rattle.v_parser.specs.declared.cursor.Cursor.TheInside.{Inside}
use Rattle.v_parser.specs.Input.{Input}
use Rattle.std.specs.Prelude.{◌+◌, ◌<◌, ◌^◌, length}

abbrev pub input_of : Inside → Input
input_of c = record { text = c.text.now; tokens = c.tokens.now; number = c.number }

abbrev pub HasNumbers : Inside → Type 0
HasNumbers c = c.number + length c.tokens.now < 2 ^ 32
