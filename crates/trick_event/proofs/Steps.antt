-- One more item of a list that is gone through.
use Rattle.std.proofs.Common.{◌≡◌, ◌∙◌, ◌+◌, ◌<◌, ◌≤◌, ℕ, zero, suc, List, [], ◌∷◌, ap, arith, drop, length, map, refl, slice_index_or, subst, sym}
use Rattle.std.proofs.lemmas.List.{drop_more}
use Rattle.trick_event.specs.Event.{event_done, read_done}
use Rattle.trick_model.specs.Events.{Asking, InTic, act_all, do_deed, event_acts, events_done, reads_done}
use Rattle.trick_model.specs.Plan.{Event}
use Rattle.trick_model.specs.declared.deed.Deed.{Deed}
use Rattle.trick_model.specs.declared.read_at.ReadAt.{ReadAt}

pub acts_next : (tic i : ℕ) (deeds : List Deed) (none : Deed) (a all : Asking) → i < length deeds
    → act_all tic (drop i deeds) a ≡ all
    → act_all tic (drop (i + 1) deeds) (do_deed (InTic tic) (slice_index_or deeds i none) a) ≡ all
acts_next tic i deeds none a all less told =
    sym (ap (λ (xs : List Deed). act_all tic xs a) (drop_more deeds i none less)) ∙ told

pub lists_next : (tic i : ℕ) (lists : List (ℕ × List Deed)) (none : ℕ × List Deed) (a all : Asking) → i < length lists
    → event_acts tic (drop i lists) a ≡ all
    → event_acts tic (drop (i + 1) lists) (act_all tic (slice_index_or lists i none).1 a) ≡ all
lists_next tic i lists none a all less told =
    sym (ap (λ (xs : List (ℕ × List Deed)). event_acts tic xs a) (drop_more lists i none less)) ∙ told

pub reads_next : (tic i : ℕ) (reads : List ReadAt) (none : ReadAt) (a all : Asking) → i < length reads
    → reads_done tic (drop i reads) a ≡ all
    → reads_done tic (drop (i + 1) reads) (read_done tic (slice_index_or reads i none) a) ≡ all
reads_next tic i reads none a all less told =
    sym (ap (λ (xs : List ReadAt). reads_done tic xs a) (drop_more reads i none less)) ∙ told

pub events_next : (tic i : ℕ) (events : List Event) (none : Event) (a all : Asking) → i < length events
    → events_done tic i (drop i events) a ≡ all
    → events_done tic (i + 1) (drop (i + 1) events) (event_done tic i (slice_index_or events i none) a) ≡ all
events_next tic i events none a all less told =
    let one : i + 1 ≡ suc i = omega arith in
    ap (λ (k : ℕ). events_done tic k (drop (i + 1) events) (event_done tic i (slice_index_or events i none) a)) one
    ∙ sym (ap (λ (xs : List Event). events_done tic i xs a) (drop_more events i none less)) ∙ told
