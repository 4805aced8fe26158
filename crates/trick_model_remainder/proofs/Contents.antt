-- What calls that write make of one file.
use Rattle.std.proofs.Common.{◌≡◌, ◌∙◌, ℕ, List, [], ◌∷◌, ◌++◌, Bool, true, false, cond, Some, unwrap_or, ap, append-nil, append_assoc, refl, sym}
use Rattle.std.specs.Prelude.{◌||◌, IsTrue, Option}
use Rattle.trick_base.specs.Content.{content, same_name, IsKept}
use Rattle.trick_base.specs.Files.{Write, Create, Append}
use Rattle.trick_model_remainder.specs.Remainder.{added, is_made}

-- ---- one call after another

pub added_append : (name : List ℕ) (early late : List Write) → added name (early ++ late) ≡ added name early ++ added name late
added_append name [] late = refl
added_append name (Create other ∷ early) late = added_append name early late
added_append name (Append other bytes ∷ early) late =
    ap (λ more. cond (same_name name other) bytes [] ++ more) (added_append name early late)
    ∙ sym (append_assoc (cond (same_name name other) bytes []) (added name early) (added name late))

pub kept_append : (name : List ℕ) (early late : List Write) → IsKept name early → IsKept name late → IsKept name (early ++ late)
kept_append name [] late one other = other
kept_append name (Create path ∷ early) late one other = (one.0, kept_append name early late one.1 other)
kept_append name (Append path bytes ∷ early) late one other = kept_append name early late one other

-- ---- a file that is not made anew grows by what is appended

grows : (t : Bool) (held bytes : List ℕ) → cond t (Some (held ++ bytes)) (Some held) ≡ Some (held ++ cond t bytes [])
grows true held bytes = refl
grows false held bytes = ap Some (sym (append-nil held))

skips : (t : Bool) (held : List ℕ) → t ≡ false → cond t (Some []) (Some held) ≡ Some held
skips t held e = ap (λ c. cond c (Some []) (Some held)) e

pub kept_adds : (name : List ℕ) (writes : List Write) (held : List ℕ) → IsKept name writes
    → content name writes (Some held) ≡ Some (held ++ added name writes)
kept_adds name [] held kept = ap Some (sym (append-nil held))
kept_adds name (Create other ∷ writes) held kept =
    ap (content name writes) (skips (same_name name other) held kept.0) ∙ kept_adds name writes held kept.1
kept_adds name (Append other bytes ∷ writes) held kept =
    ap (content name writes) (grows (same_name name other) held bytes)
    ∙ kept_adds name writes (held ++ cond (same_name name other) bytes []) kept
    ∙ ap Some (append_assoc held (cond (same_name name other) bytes []) (added name writes))

-- ---- a file that is made anew forgets what it was

made_by : (t : Bool) (name : List ℕ) (writes : List Write) (before later : Option (List ℕ)) → IsTrue (t || is_made name writes)
    → (IsTrue (is_made name writes) → (one other : Option (List ℕ)) → content name writes one ≡ content name writes other)
    → content name writes (cond t (Some []) before) ≡ content name writes (cond t (Some []) later)
made_by true name writes before later made forgets = refl
made_by false name writes before later made forgets = forgets made before later

pub made_forgets : (name : List ℕ) (writes : List Write) → IsTrue (is_made name writes) → (before later : Option (List ℕ))
    → content name writes before ≡ content name writes later
made_forgets name [] made before later = cc made
made_forgets name (Create other ∷ writes) made before later =
    made_by (same_name name other) name writes before later made (made_forgets name writes)
made_forgets name (Append other bytes ∷ writes) made before later =
    made_forgets name writes made (cond (same_name name other) (Some (unwrap_or before [] ++ bytes)) before)
    (cond (same_name name other) (Some (unwrap_or later [] ++ bytes)) later)
