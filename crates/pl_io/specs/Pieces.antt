-- The text of several pieces.
use Rattle.std.specs.Prelude.{ℕ, List, decimal}
use Rattle.std.specs.List.{flat_map}
use Rattle.pl_io.specs.declared.pieces.Piece.{Piece}
use Rattle.pl_io.specs.declared.pieces.Piece.TheVariants.{Text, Dec, Hex, Short, Bytes}
use Rattle.pl_io.specs.Numbers.{hex_text, short_text, bytes_text}

-- the text of a piece
abbrev pub piece_text : Piece → List ℕ
piece_text (Text text) = text.now
piece_text (Dec value) = decimal value
piece_text (Hex value) = hex_text value
piece_text (Short value) = short_text value
piece_text (Bytes bytes) = bytes_text bytes.now

-- the texts of the pieces, one after the other
abbrev pub pieces_text : List Piece → List ℕ
pieces_text = flat_map piece_text
