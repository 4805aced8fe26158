use Rattle.std.proofs.Common.{◌≡◌, ◌∙◌, ◌≤◌, ◌++◌, FitsSigned, List, ℕ, ap, drop, length, slice_set, subst, sym}
use Rattle.std.proofs.lemmas.Int.{to_z-of_z}
use Rattle.std.specs.Int.{w8, w16, w32, w64, to_le_bytes}
use Rattle.trick_lang.specs.Wrap.{IsOf}
use Rattle.trick_lang.specs.declared.scalar.Scalar.{Scalar}
use Rattle.trick_lang.specs.declared.scalar.Scalar.TheVariants as the
use Rattle.trick_memory.proofs.Packs.{byte_laid, cast_kept, fits_8, fits_16, fits_32}
use Rattle.trick_memory.proofs.packing.pack.Goals as goal
use Rattle.trick_memory.specs.Packed.{packed, width}

pub overflow_cast-number : goal.overflow_cast-number
overflow_cast-number c =
    let is : IsOf the.Char c.args.number = subst (λ (s : Scalar). IsOf s c.args.number) c.in-Char.is c.requires.range in
    subst (FitsSigned w8) (sym (to_z-of_z w64 c.args.number c.ranges.number)) (fits_8 c.args.number is)

pub overflow_cast-number-in-Short : goal.overflow_cast-number-in-Short
overflow_cast-number-in-Short c =
    let is : IsOf the.Short c.args.number = subst (λ (s : Scalar). IsOf s c.args.number) c.in-Short.is c.requires.range in
    subst (FitsSigned w16) (sym (to_z-of_z w64 c.args.number c.ranges.number)) (fits_16 c.args.number is)

pub overflow_cast-number-in-Int : goal.overflow_cast-number-in-Int
overflow_cast-number-in-Int c =
    let is : IsOf the.Int c.args.number = subst (λ (s : Scalar). IsOf s c.args.number) c.in-Int.is c.requires.range in
    subst (FitsSigned w32) (sym (to_z-of_z w64 c.args.number c.ranges.number)) (fits_32 c.args.number is)

pub returns-in-Char : goal.returns-in-Char
returns-in-Char c =
    let bytes = c.args.bytes.now in
    let n = c.args.number in
    let fits = fits_8 n (subst (λ (s : Scalar). IsOf s n) c.in-Char.is c.requires.range) in
    let room : 1 ≤ length bytes = subst (λ (s : Scalar). width s ≤ length bytes) c.in-Char.is c.requires.room in
    subst (λ (s : Scalar). slice_set bytes 0 c.cast_unsigned.result ≡ packed s n ++ drop (width s) bytes) (sym c.in-Char.is)
    (byte_laid bytes c.cast_unsigned.result n room fits (c.cast_unsigned.ensures ∙ cast_kept w8 n c.ranges.number fits))

pub returns-in-Short : goal.returns-in-Short
returns-in-Short c =
    let bytes = c.args.bytes.now in
    let n = c.args.number in
    let fits = fits_16 n (subst (λ (s : Scalar). IsOf s n) c.in-Short.is c.requires.range) in
    let laid = c.copy_from_slice.ensures.after ∙ (c.to_le_bytes.ensures ∙ ap (to_le_bytes w16) (cast_kept w16 n c.ranges.number fits)) in
    subst (λ (s : Scalar). c.copy_from_slice.new.self ++ drop 2 bytes ≡ packed s n ++ drop (width s) bytes) (sym c.in-Short.is)
    (ap (λ (front : List ℕ). front ++ drop 2 bytes) laid)

pub returns-in-Int : goal.returns-in-Int
returns-in-Int c =
    let bytes = c.args.bytes.now in
    let n = c.args.number in
    let fits = fits_32 n (subst (λ (s : Scalar). IsOf s n) c.in-Int.is c.requires.range) in
    let laid = c.copy_from_slice-in-Int.ensures.after ∙ (c.to_le_bytes-in-Int.ensures ∙ ap (to_le_bytes w32) (cast_kept w32 n c.ranges.number fits)) in
    subst (λ (s : Scalar). c.copy_from_slice-in-Int.new.self ++ drop 4 bytes ≡ packed s n ++ drop (width s) bytes) (sym c.in-Int.is)
    (ap (λ (front : List ℕ). front ++ drop 4 bytes) laid)
