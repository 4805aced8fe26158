-- The bytes of a memory: those of its numbers, cell after cell and without gaps.
use Rattle.std.specs.Int.{Width, w8, w16, w32, w64, byte_len, cast_signed, cast_unsigned, from_le_bytes, to_le_bytes}
use Rattle.std.specs.Prelude.{ℕ, ◌+◌, ℤ, pos, List, [], ◌∷◌, ◌++◌, drop}
use Rattle.trick_lang.specs.declared.scalar.Scalar.{Scalar}
use Rattle.trick_lang.specs.declared.scalar.Scalar.TheVariants.{Bool, Char, UChar, Short, UShort, Int, UInt, Long}

-- how many bits the numbers of a type have in a memory
abbrev pub bits_of : Scalar → Width
bits_of Bool = w8
bits_of Char = w8
bits_of UChar = w8
bits_of Short = w16
bits_of UShort = w16
bits_of Int = w32
bits_of UInt = w32
bits_of Long = w64

-- how many bytes a number of a type takes
abbrev pub width : Scalar → ℕ
width scalar = byte_len (bits_of scalar)

-- the bytes of a number of a type: in two's complement, the lowest byte first
abbrev pub packed : Scalar → ℤ → List ℕ
packed scalar number = to_le_bytes (bits_of scalar) (cast_unsigned (bits_of scalar) number)

-- the bytes of numbers of these types, one after another
abbrev pub bytes_of : List Scalar → List ℤ → List ℕ
bytes_of [] numbers = []
bytes_of (scalar ∷ scalars) [] = []
bytes_of (scalar ∷ scalars) (number ∷ numbers) = packed scalar number ++ bytes_of scalars numbers

-- how many bytes numbers of these types take
abbrev pub room_of : List Scalar → ℕ
room_of [] = 0
room_of (scalar ∷ scalars) = width scalar + room_of scalars

-- where the bytes of each number begin, the first at this place
abbrev pub offsets_from : ℕ → List Scalar → List ℕ
offsets_from start [] = []
offsets_from start (scalar ∷ scalars) = start ∷ offsets_from (start + width scalar) scalars

-- the number of a type that stands at the front of bytes
abbrev pub unpacked : Scalar → List ℕ → ℤ
unpacked Bool bytes = pos (from_le_bytes w8 bytes)
unpacked Char bytes = cast_signed w8 (from_le_bytes w8 bytes)
unpacked UChar bytes = pos (from_le_bytes w8 bytes)
unpacked Short bytes = cast_signed w16 (from_le_bytes w16 bytes)
unpacked UShort bytes = pos (from_le_bytes w16 bytes)
unpacked Int bytes = cast_signed w32 (from_le_bytes w32 bytes)
unpacked UInt bytes = pos (from_le_bytes w32 bytes)
unpacked Long bytes = cast_signed w64 (from_le_bytes w64 bytes)

-- the numbers of these types that stand in bytes, one after another
abbrev pub numbers_of : List Scalar → List ℕ → List ℤ
numbers_of [] bytes = []
numbers_of (scalar ∷ scalars) bytes = unpacked scalar bytes ∷ numbers_of scalars (drop (width scalar) bytes)
