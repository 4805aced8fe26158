-- What holds of each item of a list, with one item more.
use Rattle.std.proofs.Common.{◌≡◌, ℕ, zero, suc, ◌+◌, ◌<◌, List, [], ◌∷◌, ◌++◌, length, get_or, sym, subst, arith}

-- a fact of each item holds with one item more
pub push_each : {A : Type 0} (P : ℕ → A → Type 0) (xs : List A) (x d : A) (n : ℕ) → length xs ≡ n
    → ((k : ℕ) → k < n → P k (get_or xs k d)) → P n x → (k : ℕ) → k < n + 1 → P k (get_or (xs ++ x ∷ []) k d)
push_each P [] x d n long before here zero below = subst (λ m. P m x) (sym long) here
push_each P [] x d n long before here (suc k) below = absurd (omega arith)
push_each P (y ∷ ys) x d n long before here zero below = before 0 (omega arith)
push_each P (y ∷ ys) x d zero long before here (suc k) below = absurd (omega arith)
push_each P (y ∷ ys) x d (suc n) long before here (suc k) below =
    push_each (λ k. P (suc k)) ys x d n (omega arith) (λ k less. before (suc k) (omega arith)) here k (omega arith)
