-- One line at most is due after a front.
use Rattle.std.proofs.Common.{◌≡◌, ℕ, List, [], ◌∷◌, ◌++◌, sym, ap, ◌∙◌, inl, inr, subst, append_assoc}
use Rattle.trick_codes.specs.declared.kind.Kind.{Kind}
use Rattle.trick_codes.specs.Code.{spell}
use Rattle.trick_codes.specs.Lines.{Lines, no_line, line, and_then, seen_as, text, Holds, IsDue, read_lines, SoundLines}
use Rattle.trick_codes.proofs.Base.{good_is}
use Rattle.trick_codes.proofs.Lines.{lines_back}

no_text : (us more : List ℕ) → [] ≡ (us ++ 10 ∷ []) ++ more → ⊥
no_text [] more e = cc
no_text (u ∷ us) more e = cc

-- after a whole text nothing of it is due
pub not_behind : {A : Type 0} (c : Lines A) (front : List ℕ) (k : List ℕ → Kind) (x : A) (more : List ℕ) → SoundLines c → IsDue c front k → Holds c x → front ≡ text c x ++ more → ⊥
not_behind (no_line y) front k x more s d h e = d
not_behind (line j c) front k x more s d h e = no_text (spell c x) more (sym d.0 ∙ e)
not_behind (and_then c f) front k x more s (inl d) h e = not_behind c front k x.0 (text (f x.0) x.1 ++ more) s.0 d h.0 (e ∙ append_assoc (text c x.0) (text (f x.0) x.1) more)
not_behind (and_then {A} {B} c f) front k x more s (inr d) h e =
    let both : text c d.0 ++ d.1 ≡ text c x.0 ++ (text (f x.0) x.1 ++ more) = sym d.3 ∙ e ∙ append_assoc (text c x.0) (text (f x.0) x.1) more in
    let same = good_is d.0 x.0 d.1 (text (f x.0) x.1 ++ more) (sym (lines_back c d.0 d.1 s.0 d.2) ∙ ap (read_lines c) both ∙ lines_back c x.0 (text (f x.0) x.1 ++ more) s.0 h.0) in
    not_behind (f x.0) d.1 k x.1 more (s.1 x.0 h.0) (subst (λ (y : A). IsDue (f y) d.1 k) same.0 d.4) h.1 same.1
not_behind (seen_as f g c) front k x more s d h e = not_behind c front k (g x) more s.0 d h.0 e

pub due_once : {A : Type 0} (c : Lines A) (front : List ℕ) (k j : List ℕ → Kind) → SoundLines c → IsDue c front k → IsDue c front j → k ≡ j
due_once (no_line y) front k j s d e = absurd d
due_once (line i c) front k j s d e = sym d.1 ∙ e.1
due_once (and_then c f) front k j s (inl d) (inl e) = due_once c front k j s.0 d e
due_once (and_then c f) front k j s (inl d) (inr e) = absurd (not_behind c front k e.0 e.1 s.0 d e.2 e.3)
due_once (and_then c f) front k j s (inr d) (inl e) = absurd (not_behind c front j d.0 d.1 s.0 e d.2 d.3)
due_once (and_then {A} {B} c f) front k j s (inr d) (inr e) =
    let same = good_is d.0 e.0 d.1 e.1 (sym (lines_back c d.0 d.1 s.0 d.2) ∙ ap (read_lines c) (sym d.3 ∙ e.3) ∙ lines_back c e.0 e.1 s.0 e.2) in
    due_once (f e.0) e.1 k j (s.1 e.0 e.2) (subst (λ (us : List ℕ). IsDue (f e.0) us k) same.1 (subst (λ (y : A). IsDue (f y) d.1 k) same.0 d.4)) e.4
due_once (seen_as f g c) front k j s d e = due_once c front k j s.0 d e
