-- Samples, one after another.
use Rattle.std.proofs.Common.{◌≡◌, ◌∙◌, ℕ, List, [], ◌∷◌, ◌++◌, Bool, true, false, not, cond, Option, Some, None, ap, refl, sym}
use Rattle.std.specs.List.{retain_mut}
use Rattle.trick_exec_entries.specs.Samples.{awake, samples_of_one}
use Rattle.trick_model.specs.Session.{Message, is_sampled, sample, samples, staying}
use Rattle.trick_model.specs.State.{State}
use Rattle.trick_model.specs.declared.session.Session.{Session}
use Rattle.trick_session.specs.Answers.{sample_since}

pub samples_next : (from : ℕ) (s : State) (session : Session) (sessions : List Session)
    → samples from s (session ∷ sessions) ≡ samples_of_one from s session ++ samples from s sessions
samples_next from s session sessions = by (is_sampled from s.tic session)
  where
    by : (b : Bool) → (
        let all : List Message = elim b [ true ↦ (session.number, sample s.memory session) ∷ samples from s sessions | false ↦ samples from s sessions ] in
        let one : List Message = elim b [ true ↦ (session.number, sample s.memory session) ∷ [] | false ↦ [] ] in
        all ≡ one ++ samples from s sessions)
    by true = refl
    by false = refl

some_one : (a b : List ℕ) → Some a ≡ Some b → a ≡ b
some_one a b e = cc

pub due_some : (from : ℕ) (s : State) (session : Session) (bytes : List ℕ) → Some bytes ≡ sample_since from s session
    → samples_of_one from s session ≡ (session.number, bytes) ∷ []
due_some from s session bytes = by (is_sampled from s.tic session)
  where
    by : (b : Bool) → (let o : Option (List ℕ) = elim b [ true ↦ Some (sample s.memory session) | false ↦ None ] in Some bytes ≡ o)
        → (let one : List Message = elim b [ true ↦ (session.number, sample s.memory session) ∷ [] | false ↦ [] ] in one ≡ (session.number, bytes) ∷ [])
    by true e = ap (λ (l : List ℕ). (session.number, l) ∷ []) (sym (some_one bytes (sample s.memory session) e))
    by false e = cc

pub due_none : (from : ℕ) (s : State) (session : Session) → None ≡ sample_since from s session → samples_of_one from s session ≡ []
due_none from s session = by (is_sampled from s.tic session)
  where
    by : (b : Bool) → (let o : Option (List ℕ) = elim b [ true ↦ Some (sample s.memory session) | false ↦ None ] in None ≡ o)
        → (let one : List Message = elim b [ true ↦ (session.number, sample s.memory session) ∷ [] | false ↦ [] ] in one ≡ [])
    by true e = cc
    by false e = refl

-- who stays at the end of a turn
pub staying_is : (ss : List Session) → retain_mut (λ (s : Session). not s.leaving) awake ss ≡ staying ss
staying_is [] = refl
staying_is (s ∷ ss) = by s.leaving (retain_mut (λ (s : Session). not s.leaving) awake ss) (staying_is ss)
  where
    by : (b : Bool) (rest : List Session) → rest ≡ staying ss
        → (let l : List Session = elim b [ true ↦ staying ss | false ↦ awake s ∷ staying ss ] in cond (not b) (awake s ∷ rest) rest ≡ l)
    by true rest e = e
    by false rest e = ap (λ (l : List Session). awake s ∷ l) e
