-- Calls of a door, one after another. The laws of doors cite this.
use Rattle.std.proofs.Common.{◌≡◌, ◌∙◌, List, [], ◌∷◌, ◌++◌, ap, append_assoc, refl, sym}
use Rattle.trick_outside.specs.Visits.{Back, Ended, Failed, Gave, NotYet, OutOfMemory, Visit, clients}

-- The clients of calls one after another are those of the first calls and then those of the others.
pub clients_join : {I O : Type 0} (early late : List (Visit I O))
    → clients (early ++ late) ≡ clients early ++ clients late
clients_join [] late = refl
clients_join (Gave input output ∷ early) late =
    ap (λ (given : List _). (input, output) ∷ given) (clients_join early late)
clients_join (NotYet ∷ early) late = clients_join early late
clients_join (Ended ∷ early) late = clients_join early late
clients_join (Failed ∷ early) late = clients_join early late
clients_join (OutOfMemory ∷ early) late = clients_join early late
clients_join (Back number input output ∷ early) late = clients_join early late

-- No client came in the first calls, and none in the others.
pub none_join : {I O : Type 0} (early late : List (Visit I O))
    → clients early ≡ [] → clients late ≡ [] → clients (early ++ late) ≡ []
none_join early late one two =
    clients_join early late ∙ ap (λ (given : List _). given ++ clients late) one ∙ two

-- The clients of the first calls, then those of the others, and then those that still wait.
pub waiting_join : {I O : Type 0} (first second third : List (I × O)) (early late : List (Visit I O))
    → first ≡ clients early ++ second → second ≡ clients late ++ third → first ≡ clients (early ++ late) ++ third
waiting_join first second third early late one two =
    one ∙ ap (λ (rest : List _). clients early ++ rest) two ∙ sym (append_assoc (clients early) (clients late) third)
    ∙ ap (λ (given : List _). given ++ third) (sym (clients_join early late))
