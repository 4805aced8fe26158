-- Bytes that come in two pieces, and a carriage return at the end of a line.
use Rattle.std.proofs.Common.{◌≡◌, ℕ, ◌+◌, ◌<◌, Bool, true, false, nat_lt, get_or, List, [], ◌∷◌, ◌++◌, length, take, Option, Some, None, refl, sym, ap, ◌∙◌, append_assoc}
use Rattle.std.proofs.lemmas.Bool.Decides.{Decides-eqb}
use Rattle.std.proofs.lemmas.List.{take_more}
use Rattle.std.specs.Prelude.{◌==◌}
use Rattle.trick_command.specs.Fed.{Fed, fed, held_behind}
use Rattle.trick_model.specs.Commands.{lines_behind, without_return}

-- ---- a carriage return

pub dropped : (front : List ℕ) → front ≡ without_return (front ++ 13 ∷ [])
dropped [] = refl
dropped (a ∷ []) = refl
dropped (a ∷ b ∷ front) = ap (λ bs. a ∷ bs) (dropped (b ∷ front))

kept : (front : List ℕ) (last : ℕ) → (last == 13) ≡ false → front ++ last ∷ [] ≡ without_return (front ++ last ∷ [])
kept [] last e = rw (without_return, e) refl
kept (a ∷ []) last e = rw (without_return, e) refl
kept (a ∷ b ∷ front) last e = ap (λ bs. a ∷ bs) (kept (b ∷ front) last e)

pub kept_unless : (front : List ℕ) (last : ℕ) → (last ≡ 13 → ⊥) → front ++ last ∷ [] ≡ without_return (front ++ last ∷ [])
kept_unless front last apart = by (last == 13) refl
  where
    by : (b : Bool) → (last == 13) ≡ b → front ++ last ∷ [] ≡ without_return (front ++ last ∷ [])
    by true e = absurd (apart ((Decides-eqb last 13).0 e))
    by false e = kept front last e

-- ---- two pieces

abbrev lines_after : Option (List ℕ) → List ℕ → List (List ℕ)
lines_after None bytes = []
lines_after (Some held) bytes = lines_behind held bytes

abbrev held_after : Option (List ℕ) → List ℕ → Option (List ℕ)
held_after None bytes = None
held_after (Some held) bytes = held_behind held bytes

held_step : (is_end fits : Bool) (ended longer : Option (List ℕ)) (ended_more longer_more : Option (List ℕ)) (second : List ℕ) → ended_more ≡ held_after ended second → longer_more ≡ held_after longer second
    → elim is_end [ true ↦ ended_more | false ↦ elim fits [ true ↦ longer_more | false ↦ None ] ] ≡ held_after (elim is_end [ true ↦ ended | false ↦ elim fits [ true ↦ longer | false ↦ None ] ]) second
held_step true fits ended longer ended_more longer_more second e l = e
held_step false true ended longer ended_more longer_more second e l = l
held_step false false ended longer ended_more longer_more second e l = refl

held_in_two : (held first second : List ℕ) → held_behind held (first ++ second) ≡ held_after (held_behind held first) second
held_in_two held [] second = refl
held_in_two held (b ∷ first) second =
    held_step (b == 10) (nat_lt (length held) 4096) _ _ _ _ second (held_in_two [] first second) (held_in_two (held ++ b ∷ []) first second)

lines_step : (is_end fits : Bool) (line : List ℕ) (ended longer : Option (List ℕ)) (ended_lines longer_lines ended_more longer_more : List (List ℕ)) (second : List ℕ)
    → ended_more ≡ ended_lines ++ lines_after ended second → longer_more ≡ longer_lines ++ lines_after longer second
    → elim is_end [ true ↦ line ∷ ended_more | false ↦ elim fits [ true ↦ longer_more | false ↦ [] ] ]
    ≡ elim is_end [ true ↦ line ∷ ended_lines | false ↦ elim fits [ true ↦ longer_lines | false ↦ [] ] ] ++ lines_after (elim is_end [ true ↦ ended | false ↦ elim fits [ true ↦ longer | false ↦ None ] ]) second
lines_step true fits line ended longer ended_lines longer_lines ended_more longer_more second e l = ap (λ ls. line ∷ ls) e
lines_step false true line ended longer ended_lines longer_lines ended_more longer_more second e l = l
lines_step false false line ended longer ended_lines longer_lines ended_more longer_more second e l = refl

lines_in_two : (held first second : List ℕ) → lines_behind held (first ++ second) ≡ lines_behind held first ++ lines_after (held_behind held first) second
lines_in_two held [] second = refl
lines_in_two held (b ∷ first) second =
    lines_step (b == 10) (nat_lt (length held) 4096) (without_return held) _ _ _ _ _ _ second (lines_in_two [] first second) (lines_in_two (held ++ b ∷ []) first second)

again : (waiting some : List (List ℕ)) (held : Option (List ℕ)) (second : List ℕ)
    → fed (record { waiting = waiting ++ some; held = held }) second ≡ record { waiting = waiting ++ (some ++ lines_after held second); held = held_after held second }
again waiting some None second = ap (λ ls. record { waiting = waiting ++ ls; held = None }) (nothing_more some)
  where
    nothing_more : (xs : List (List ℕ)) → xs ≡ xs ++ []
    nothing_more [] = refl
    nothing_more (x ∷ xs) = ap (λ ys. x ∷ ys) (nothing_more xs)
again waiting some (Some held) second = ap (λ ls. record { waiting = ls; held = held_behind held second }) (append_assoc waiting some (lines_behind held second))

pub in_two : (feed : Fed) (first second : List ℕ) → fed (fed feed first) second ≡ fed feed (first ++ second)
in_two feed first second = by feed.waiting feed.held
  where
    by : (waiting : List (List ℕ)) (held : Option (List ℕ)) → fed (fed (record { waiting = waiting; held = held }) first) second ≡ fed (record { waiting = waiting; held = held }) (first ++ second)
    by waiting None = refl
    by waiting (Some held) = again waiting (lines_behind held first) (held_behind held first) second ∙ sym both
      where
        both : fed (record { waiting = waiting; held = Some held }) (first ++ second) ≡ record { waiting = waiting ++ (lines_behind held first ++ lines_after (held_behind held first) second); held = held_after (held_behind held first) second }
        both = rw (lines_in_two held first second, held_in_two held first second) refl

-- ---- a piece, byte by byte

pub one_more : (old now next : Fed) (piece : List ℕ) (i d : ℕ) → i < length piece → now ≡ fed old (take i piece) → next ≡ fed now (get_or piece i d ∷ []) → next ≡ fed old (take (i + 1) piece)
one_more old now next piece i d lt is step = step ∙ ap (λ feed. fed feed (get_or piece i d ∷ [])) is ∙ in_two old (take i piece) (get_or piece i d ∷ []) ∙ ap (fed old) (sym (take_more piece i d lt))
