-- What is held as bytes, at first and after a store.
use Rattle.std.proofs.Common.{◌≡◌, ◌∙◌, ◌+◌, ◌<◌, ◌≤◌, ◌++◌, ◌∷◌, [], ℕ, ℤ, pos, List, length, take, drop, replicate, slice_index_or, slice_set, arith, subst, sym, ap, ap₂, refl}
use Rattle.std.proofs.lemmas.List.{get_or_read, length-replicate, length-set, length-take, replicate-append-replicate, take_all, take_at}
use Rattle.trick_lang.proofs.Variables.{scalars_length}
use Rattle.trick_lang.specs.Effect.{scalars_of}
use Rattle.trick_lang.specs.Wrap.{AreInRange, IsOf, scalar_at}
use Rattle.trick_lang.specs.declared.scalar.Scalar.{Scalar}
use Rattle.trick_lang.specs.declared.scalar.Scalar.TheVariants as the
use Rattle.trick_lang.specs.declared.variable.Variable.{Variable}
use Rattle.trick_memory.proofs.Packs.{bytes_set, length_bytes, length_numbers, length_offsets, number_there, numbers_told, offset_at, offsets_push, room_few, room_push, room_there, zero_bytes}
use Rattle.trick_memory.proofs.Stores.{stays_in_range, zeros_in_range, zeros_stored}
use Rattle.trick_memory.specs.Packed.{bytes_of, numbers_of, offsets_from, packed, room_of, unpacked, width}
use Rattle.trick_memory.specs.Stored.{IsHeld, IsStored, Stored, zeros}
use Rattle.trick_model.specs.Valid.{cell_names}

-- ---- at first

pub few_bytes : (cells : List Variable) (i : ℕ) → length cells ≤ 65536 → room_of (scalars_of (take i cells)) ≤ 524288
few_bytes cells i few =
    omega (arith, few, room_few (scalars_of (take i cells)), scalars_length (take i cells), length-take i cells)

-- zeros go on
pub zeros_more : (bytes : List ℕ) (ss more : List Scalar) (s : Scalar) (n k : ℕ) → bytes ≡ replicate (room_of ss) 0 → more ≡ ss ++ s ∷ []
    → n ≡ room_of ss + width s → k ≡ width s → take n bytes ++ replicate k 0 ≡ replicate (room_of more) 0
zeros_more bytes ss more s n k are is long rest =
    let count : length bytes ≡ room_of ss = ap length are ∙ length-replicate (room_of ss) 0 in
    let whole : take n bytes ≡ bytes = take_all n bytes (omega (arith, count, long)) in
    let room : room_of ss + width s ≡ room_of more = sym (ap room_of is ∙ room_push ss s) in
    ap₂ (λ (front : List ℕ) (m : ℕ). front ++ replicate m 0) (whole ∙ are) rest
    ∙ (replicate-append-replicate (room_of ss) (width s) 0 ∙ ap (λ (m : ℕ). replicate m 0) room)

-- and so do the offsets
pub offsets_more : (offsets : List ℕ) (ss more : List Scalar) (s : Scalar) (o : ℕ) → offsets ≡ offsets_from 0 ss → more ≡ ss ++ s ∷ []
    → o ≡ room_of ss → offsets ++ o ∷ [] ≡ offsets_from 0 more
offsets_more offsets ss more s o are is at =
    let from : o ≡ 0 + room_of ss = omega (arith, at) in
    ap₂ (λ (front : List ℕ) (last : ℕ). front ++ last ∷ []) are from ∙ (sym (offsets_push 0 ss s) ∙ ap (offsets_from 0) (sym is))

pub zeros_told : (ss : List Scalar) → numbers_of ss (replicate (room_of ss) 0) ≡ replicate (length ss) (pos 0)
zeros_told ss =
    ap (numbers_of ss) (sym (zero_bytes ss))
    ∙ numbers_told ss (replicate (length ss) (pos 0)) (length-replicate (length ss) (pos 0)) (zeros_in_range ss (length ss))

pub zeros_held : (cells : List Variable) → length cells ≤ 65536
    → IsHeld (cell_names cells) (scalars_of cells) (offsets_from 0 (scalars_of cells)) (replicate (room_of (scalars_of cells)) 0)
zeros_held cells few =
    let ss = scalars_of cells in
    let told : numbers_of ss (replicate (room_of ss) 0) ≡ replicate (length cells) (pos 0) =
    zeros_told ss ∙ ap (λ (n : ℕ). replicate n (pos 0)) (scalars_length cells) in
    record {
      stored = subst (λ (ns : List ℤ). IsStored (cell_names cells) ss ns) (sym told) (zeros_stored cells few);
      whole = sym (ap (bytes_of ss) (zeros_told ss) ∙ zero_bytes ss);
      placed = refl;
    }

abbrev pub seen : List (List ℕ) → List Scalar → List ℤ → Stored
seen names scalars numbers = record { names = names; scalars = scalars; numbers = numbers }

-- what the parts of a memory of zeros are
module _ (cells : List Variable) (names : List (List ℕ)) (ss : List Scalar) (offsets bytes : List ℕ) (named : names ≡ cell_names cells) (typed : ss ≡ scalars_of cells) (placed : offsets ≡ offsets_from 0 ss) (zeroed : bytes ≡ replicate (room_of ss) 0) where
  pub parts_held : length cells ≤ 65536 → IsHeld names ss offsets bytes
  parts_held few =
      let at = placed ∙ ap (offsets_from 0) typed in
      let zeros_are = zeroed ∙ ap (λ (scalars : List Scalar). replicate (room_of scalars) 0) typed in
      subst (λ (ns : List (List ℕ)). IsHeld ns ss offsets bytes) (sym named)
      (subst (λ (scalars : List Scalar). IsHeld (cell_names cells) scalars offsets bytes) (sym typed)
      (subst (λ (os : List ℕ). IsHeld (cell_names cells) (scalars_of cells) os bytes) (sym at)
      (subst (λ (bs : List ℕ). IsHeld (cell_names cells) (scalars_of cells) (offsets_from 0 (scalars_of cells)) bs) (sym zeros_are)
      (zeros_held cells few))))

  pub parts_seen : seen names ss (numbers_of ss bytes) ≡ zeros cells
  parts_seen =
      let told : numbers_of ss bytes ≡ replicate (length cells) (pos 0) =
      ap (numbers_of ss) zeroed ∙ (zeros_told ss ∙ ap (λ (n : ℕ). replicate n (pos 0)) (ap length typed ∙ scalars_length cells)) in
      ap (λ (numbers : List ℤ). seen names ss numbers) told
      ∙ (ap (λ (scalars : List Scalar). seen names scalars (replicate (length cells) (pos 0))) typed
      ∙ ap (λ (ns : List (List ℕ)). seen ns (scalars_of cells) (replicate (length cells) (pos 0))) named)

-- ---- where a cell's bytes begin

-- a cell that has a number has a type
pub cell_there : (names : List (List ℕ)) (ss : List Scalar) (bytes : List ℕ) (memory : Stored) (c : ℕ)
    → seen names ss (numbers_of ss bytes) ≡ memory → c < length memory.numbers → c < length ss
cell_there names ss bytes memory c is there =
    subst (λ (n : ℕ). c < n) (length_numbers ss bytes) (subst (λ (m : Stored). c < length m.numbers) (sym is) there)

module _ (names : List (List ℕ)) (ss : List Scalar) (offsets bytes : List ℕ) (held : IsHeld names ss offsets bytes) where
  -- as many offsets as types
  pub offset_count : length offsets ≡ length ss
  offset_count = ap length held.placed ∙ length_offsets 0 ss

  pub begins_at : (c o d : ℕ) → c < length ss → o ≡ slice_index_or offsets c d → o ≡ room_of (take c ss)
  begins_at c o d there is =
      let at : o ≡ 0 + room_of (take c ss) = is ∙ (ap (λ (os : List ℕ). slice_index_or os c d) held.placed ∙ offset_at 0 ss c d there) in
      omega (arith, at)

  -- and there are bytes up to its end
  pub ends_within : (c : ℕ) → c < length ss → room_of (take c ss) + width (scalar_at ss c) ≤ length bytes
  ends_within c there =
      let count : length bytes ≡ room_of ss = ap length held.whole ∙ length_bytes ss (numbers_of ss bytes) (length_numbers ss bytes) in
      omega (arith, count, room_there ss c there)

  -- what is found at the place of a cell
  module _ (c o : ℕ) (s : Scalar) (bs : List ℕ) (there : c < length ss) (all : bs ≡ bytes) (at : o ≡ slice_index_or offsets c o) (kind : s ≡ slice_index_or ss c s) where
    pub kind_there : s ≡ scalar_at ss c
    kind_there = get_or_read ss c s there kind the.Long

    pub room_read : o + width s ≤ length bs
    room_read =
        let place : o ≡ room_of (take c ss) = begins_at c o o there at in
        let fits : o + width (scalar_at ss c) ≤ length bytes = omega (arith, place, ends_within c there) in
        subst (λ (b : List ℕ). o + width s ≤ length b) (sym all) (subst (λ (k : Scalar). o + width k ≤ length bytes) (sym kind_there) fits)

    pub number_read : (r : ℤ) → r ≡ unpacked s (drop o bs) → r ≡ slice_index_or (numbers_of ss bytes) c (pos 0)
    number_read r is =
        is ∙ (ap (λ (b : List ℕ). unpacked s (drop o b)) all
        ∙ (ap₂ (λ (k : Scalar) (n : ℕ). unpacked k (drop n bytes)) kind_there (begins_at c o o there at)
        ∙ sym (number_there ss bytes c there)))

-- ---- after a store

module _ (names : List (List ℕ)) (ss : List Scalar) (offsets bytes : List ℕ) (c : ℕ) (x : ℤ) (held : IsHeld names ss offsets bytes) (there : c < length ss) (right : IsOf (scalar_at ss c) x) where
  -- the bytes with those of the number where its cell's begin
  abbrev pub stored_bytes : List ℕ
  stored_bytes =
      take (room_of (take c ss)) bytes
      ++ (packed (scalar_at ss c) x ++ drop (width (scalar_at ss c)) (drop (room_of (take c ss)) bytes))

  stored_are : stored_bytes ≡ bytes_of ss (slice_set (numbers_of ss bytes) c x)
  stored_are =
      ap (λ (bs : List ℕ). take (room_of (take c ss)) bs ++ (packed (scalar_at ss c) x ++ drop (width (scalar_at ss c)) (drop (room_of (take c ss)) bs))) held.whole
      ∙ bytes_set ss (numbers_of ss bytes) c x (length_numbers ss bytes) there

  in_range : AreInRange ss (slice_set (numbers_of ss bytes) c x)
  in_range =
      stays_in_range ss (numbers_of ss bytes) c x (subst (λ (n : ℕ). c < n) (sym (length_numbers ss bytes)) there) right held.stored.in_range

  as_many : length (slice_set (numbers_of ss bytes) c x) ≡ length ss
  as_many = length-set (numbers_of ss bytes) c x ∙ length_numbers ss bytes

  -- they are what a store leaves
  pub stored_bytes_are : (o len : ℕ) (s : Scalar) (bs new : List ℕ) (y : ℤ) → bs ≡ bytes → o ≡ slice_index_or offsets c o → s ≡ slice_index_or ss c s
      → y ≡ x → len ≡ length bytes → new ≡ take o bs ++ (packed s y ++ drop (width s) (drop o bs))
      → take len (new ++ drop (length new) bytes) ≡ stored_bytes
  stored_bytes_are o len s bs new y all at kind same count is =
      let place = begins_at names ss offsets bytes held c o o there at in
      let of_kind = kind_there names ss offsets bytes held c o s bs there all at kind in
      let laid : ℕ → Scalar → List ℕ → ℤ → List ℕ = λ (k : ℕ) (t : Scalar) (b : List ℕ) (z : ℤ). take k b ++ (packed t z ++ drop (width t) (drop k b)) in
      let whole : new ≡ stored_bytes =
      is ∙ (ap (λ (b : List ℕ). laid o s b y) all ∙ (ap₂ (λ (k : ℕ) (t : Scalar). laid k t bytes y) place of_kind
      ∙ ap (laid (room_of (take c ss)) (scalar_at ss c) bytes) same)) in
      let before : length bytes ≡ room_of ss = ap length held.whole ∙ length_bytes ss (numbers_of ss bytes) (length_numbers ss bytes) in
      let after : length stored_bytes ≡ room_of ss = ap length stored_are ∙ length_bytes ss (slice_set (numbers_of ss bytes) c x) as_many in
      let long : length new ≡ len = omega (arith, ap length whole, before, after, count) in
      take_at new (drop (length new) bytes) len long ∙ whole

  -- they tell that number in its cell
  pub stored_told : numbers_of ss stored_bytes ≡ slice_set (numbers_of ss bytes) c x
  stored_told = ap (numbers_of ss) stored_are ∙ numbers_told ss (slice_set (numbers_of ss bytes) c x) as_many in_range

  pub stored_held : IsHeld names ss offsets stored_bytes
  stored_held = record {
    stored = subst (λ (ns : List ℤ). IsStored names ss ns) (sym stored_told) (record {
      named = held.stored.named;
      numbered = as_many;
      few = held.stored.few;
      in_range = in_range;
    });
    whole = stored_are ∙ ap (bytes_of ss) (sym stored_told);
    placed = held.placed;
  }
