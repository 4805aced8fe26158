-- Worked bytes.
use Rattle.std.specs.Prelude.{◌≡◌, pos, negsuc, [], ◌∷◌, ◌++◌}
use Rattle.trick_lang.specs.declared.scalar.Scalar.TheVariants.{Bool, Char, UChar, Short, UShort, Int, UInt, Long}
use Rattle.trick_memory.specs.Packed.{bytes_of, packed}

-- each number has its bytes
abbrev pub AreNumbersPacked : Type 0
AreNumbersPacked =
    -- one byte: true, -1, -128 and 200
    (packed Bool (pos 1) ≡ 1 ∷ [])
    × (packed Char (negsuc 0) ≡ 255 ∷ [])
    × (packed Char (negsuc 127) ≡ 128 ∷ [])
    × (packed UChar (pos 200) ≡ 200 ∷ [])
    -- two: -2, 258 and 65534
    × (packed Short (negsuc 1) ≡ 254 ∷ 255 ∷ [])
    × (packed Short (pos 258) ≡ 2 ∷ 1 ∷ [])
    × (packed UShort (pos 65534) ≡ 254 ∷ 255 ∷ [])
    -- four: -300, 16909060 and 4294967295
    × (packed Int (negsuc 299) ≡ 212 ∷ 254 ∷ 255 ∷ 255 ∷ [])
    × (packed Int (pos 16909060) ≡ 4 ∷ 3 ∷ 2 ∷ 1 ∷ [])
    × (packed UInt (pos 4294967295) ≡ 255 ∷ 255 ∷ 255 ∷ 255 ∷ [])
    -- eight: 1000000, -1000000 and the least of all, -2^63
    × (packed Long (pos 1000000) ≡ 64 ∷ 66 ∷ 15 ∷ 0 ∷ 0 ∷ 0 ∷ 0 ∷ 0 ∷ [])
    × (packed Long (negsuc 999999) ≡ 192 ∷ 189 ∷ 240 ∷ 255 ∷ 255 ∷ 255 ∷ 255 ∷ 255 ∷ [])
    × (packed Long (negsuc 9223372036854775807) ≡ 0 ∷ 0 ∷ 0 ∷ 0 ∷ 0 ∷ 0 ∷ 0 ∷ 128 ∷ [])

-- each memory has its bytes
abbrev pub AreMemoriesPacked : Type 0
AreMemoriesPacked =
    -- five cells of one type
    (bytes_of (Int ∷ Int ∷ Int ∷ Int ∷ Int ∷ []) (pos 22 ∷ pos 0 ∷ pos 2 ∷ pos 3 ∷ pos 1 ∷ [])
    ≡ (22 ∷ 0 ∷ 0 ∷ 0 ∷ []) ++ ((0 ∷ 0 ∷ 0 ∷ 0 ∷ []) ++ ((2 ∷ 0 ∷ 0 ∷ 0 ∷ []) ++ ((3 ∷ 0 ∷ 0 ∷ 0 ∷ [])
    ++ (1 ∷ 0 ∷ 0 ∷ 0 ∷ [])))))
    -- no cells
    × (bytes_of [] [] ≡ [])
    -- a wide cell follows a narrow one without a gap
    × (bytes_of (Bool ∷ Short ∷ UChar ∷ Long ∷ Char ∷ []) (pos 1 ∷ negsuc 1 ∷ pos 7 ∷ pos 513 ∷ negsuc 2 ∷ [])
    ≡ 1 ∷ 254 ∷ 255 ∷ 7 ∷ 1 ∷ 2 ∷ 0 ∷ 0 ∷ 0 ∷ 0 ∷ 0 ∷ 0 ∷ 253 ∷ [])
