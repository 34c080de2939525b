-- Which names vertices and files may have.
use Rattle.std.specs.Prelude.{ℕ, ◌==◌, ◌&&◌, ◌||◌, not, nat_le, Bool, false, List, [], ◌∷◌, length, codes, bytes_eq}
use Rattle.std.specs.Char.{is_ascii_alphabetic, is_ascii_alphanumeric}
use Rattle.std.specs.List.{list_all}

-- a letter, a digit, `_` or `-`
abbrev pub is_name_byte : ℕ → Bool
is_name_byte byte = is_ascii_alphanumeric byte || byte == 95 || byte == 45

-- 1 to 32 bytes of these, a letter first
abbrev pub is_vertex_name : List ℕ → Bool
is_vertex_name [] = false
is_vertex_name (first ∷ rest) =
    nat_le (length (first ∷ rest)) 32 && is_ascii_alphabetic first && list_all is_name_byte (first ∷ rest)

-- a printable byte of ASCII, the space among them
abbrev pub is_file_byte : ℕ → Bool
is_file_byte byte = nat_le 0x20 byte && nat_le byte 0x7E

-- 1 to 200 bytes of these, and not `!`
abbrev pub is_file_name : List ℕ → Bool
is_file_name file =
    not (length file == 0) && nat_le (length file) 200 && list_all is_file_byte file && not (bytes_eq file (codes "!"))

-- the same of a source, which can't read `-`, standard output
abbrev pub is_source_file : List ℕ → Bool
is_source_file file = is_file_name file && not (bytes_eq file (codes "-"))
