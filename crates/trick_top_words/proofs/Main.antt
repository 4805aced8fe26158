-- A line has no fault exactly where items spell it.
use Rattle.std.proofs.Common.{◌≡◌, ◌≢◌, ◌++◌, ◌∷◌, ◌+◌, ◌∙◌, [], ℕ, List, Bool, true, false, Some, None, refl, sym, ap, ap₂, subst, append_assoc, append-nil, inl, inr}
use Rattle.std.specs.List.{AllByRecursion}
use Rattle.std.specs.Prelude.{fold, ⊤}
use Rattle.std.specs.Str.{bytes_eq}
use Rattle.clap.specs.Walk.{Held, Row, Text, Walk, finished, idle, settled, walked, with_default}
use Rattle.clap.specs.Kinds.{Kinds, check_kinds, or_else}
use Rattle.clap.specs.Faults.{check_fault, defaults_fault, settle_fault, turn_fault, use_fault, walk_fault}
use Rattle.clap.specs.Simple.{Shape}
use Rattle.trick_top_words.specs.CommandLine.{Fills, Given, IsAllowed, IsAmong, Item, NoneTwice, SpellsAll, has_hyphen, option, positional}
use Rattle.trick_top_words.proofs.Rows.{no_default_fault, no_defaults, rows, single, use_needs, use_new}
use Rattle.trick_top_words.proofs.Flags.{IsMet}
use Rattle.trick_top_words.proofs.Turns.{IsReady, KnowsLast, KnowsOption, Last, dashed, dashed_with, full, held, met_none, nothing, open_turn, or_else_free, or_else_parts, place_turn, settle_free, settle_needs, settle_rows, so_far, stand, stray_turn, value_turn, waiting_for, waits, with_turn}
use Rattle.trick_top_words.proofs.Lines.{Ahead, Apart, Fits, Fresh, apart_rest, ends, fresh_last, lacks, lacks_is, lacks_last, lacks_place, lacks_used, of_option, total, total_join, total_parts, twice_last, twice_new}

module _ (s : Shape) (places options : List Text) (fits : Fits s places options) where
  abbrev Met : List Text → Type 0
  Met words = AllByRecursion (IsMet s [] options) words

  -- ---- the end of the words

  end_is : (ps : Given) (q : Last) (p : ℕ) → KnowsLast s.rules q → IsReady ps q
      → ends s (stand ps q p) ≡ check_kinds false false (lacks places (so_far ps q))
  end_is ps q p k ready =
      let done = settle_rows s.rules ps q k ready in
      let none = no_default_fault (rows (so_far ps q)) s.rules fits.plain in
      let same = no_defaults (rows (so_far ps q)) s.rules fits.plain in
      ap (λ (b : Bool). or_else (settle_fault s.rules b (held ps q)) (or_else (defaults_fault (settled s.rules (held ps q)).rows s.rules) (check_fault s (finished s.rules (held ps q)) false))) fits.again
      ∙ ap (λ (f : Kinds). or_else f (or_else (defaults_fault (settled s.rules (held ps q)).rows s.rules) (check_fault s (finished s.rules (held ps q)) false))) (settle_free s.rules ps q k ready)
      ∙ ap (λ (h : Held). or_else (defaults_fault h.rows s.rules) (check_fault s (fold with_default h.rows s.rules) false)) done
      ∙ ap₂ (λ (f : Kinds) (rs : List Row). or_else f (check_fault s rs false)) none same
      ∙ fits.asks (rows (so_far ps q))
      ∙ ap (check_kinds false false) (lacks_is places (so_far ps q))

  end_ready : (ps : Given) (q : Last) (p : ℕ) → KnowsLast s.rules q → ends s (stand ps q p) ≡ [] → IsReady ps q
  end_ready ps q p k h = settle_needs s.rules ps q k
      (sym (ap (λ (b : Bool). settle_fault s.rules b (held ps q)) fits.again) ∙ (or_else_parts (settle_fault s.rules s.args_override_self (held ps q)) _ h).0)

  nothing_lacks : (b : Bool) → check_kinds false false b ≡ [] → b ≡ false
  nothing_lacks false h = refl
  nothing_lacks true h = cc h

  -- ---- from no fault to items

  abbrev opened : Last → List Text → List Text
  opened nothing words = words
  opened (full id v) words = words
  opened (waits o) words = dashed o ∷ words

  abbrev AmongLast : Last → Type 0
  AmongLast nothing = ⊤
  AmongLast (full id v) = ⊤
  AmongLast (waits o) = IsAmong o options

  abbrev Spelled : List Text → List Text → Given → Type 0
  Spelled left words done = (items : List Item) × (new : Given) × SpellsAll items words × Fills left options items new × NoneTwice (done ++ new)

  -- what is known while the words are walked
  record Along (ps : Given) (q : Last) (p : ℕ) (used left : List Text) : Type 0 where
    pub split : places ≡ used ++ left
    pub ahead : Ahead s.rules p left
    pub apart : Apart left options
    pub known : KnowsLast s.rules q
    pub among : AmongLast q
    pub fresh : Fresh left (so_far ps q)
    pub once : NoneTwice ps

  abbrev Sound : List Text → Type 0
  Sound words = (ps : Given) (q : Last) (p : ℕ) (used left : List Text) → Along ps q p used left
      → Met words → total s (stand ps q p) words ≡ [] → Spelled left (opened q words) (so_far ps q)

  once_more : (ps : Given) (q : Last) → NoneTwice ps → IsReady ps q → NoneTwice (so_far ps q)
  once_more ps nothing h ready = h
  once_more ps (full id v) h ready = twice_last ps (id, v) h ready
  once_more ps (waits o) h ready = h

  shut : (ps : Given) (q : Last) (words : List Text) → IsReady ps q → opened q words ≡ words
  shut ps nothing words r = refl
  shut ps (full id v) words r = refl
  shut ps (waits o) words r = absurd r

  at_end : Sound []
  unfolding SpellsAll Fills walk_fault
  at_end ps q p used [] a allowed h =
      let ready = end_ready ps q p a.known h in
      ([], [], shut ps q [] ready, (refl, refl), subst NoneTwice (sym (append-nil (so_far ps q))) (once_more ps q a.once ready))
  at_end ps q p used (id ∷ left) a allowed h =
      let ready = end_ready ps q p a.known h in
      let whole = nothing_lacks _ (sym (end_is ps q p a.known ready) ∙ h) in
      let missing = lacks_place used left id (so_far ps q) a.fresh.0 in
      cc (sym whole ∙ ap (λ (xs : List Text). lacks xs (so_far ps q)) a.split ∙ missing)

  -- the word is the value of the option that waits
  value_step : (o w : Text) (rest : List Text) → Sound rest → (ps : Given) (p : ℕ) (used left : List Text) → Along ps (waits o) p used left
      → has_hyphen w ≡ false → Met rest → total s (stand ps (waits o) p) (w ∷ rest) ≡ []
      → Spelled left (dashed o ∷ w ∷ rest) ps
  unfolding SpellsAll Fills
  value_step o w rest ih ps p used left a e later h =
      let turn = value_turn s ps o w p e a.known in
      let parts = total_parts s (stand ps (waits o) p) w rest h in
      let after = subst (λ (x : Walk). total s x rest ≡ []) turn.1 parts.1 in
      let along : Along ps (full o w) p used left = record {
        split = a.split;
        ahead = a.ahead;
        apart = a.apart;
        known = a.known;
        among = tt;
        fresh = fresh_last left ps (o, w) a.fresh (of_option (λ x. AllByRecursion (λ id. bytes_eq x id ≡ false) left) o options a.apart a.among);
        once = a.once;
      } in
      let (items, new, spells, fills, once) = ih ps (full o w) p used left along later after in
      (option o w ∷ items, (o, w) ∷ new, (dashed o ∷ w ∷ [], rest, refl, inl (e, refl), spells), (new, refl, a.among, fills), subst NoneTwice (append_assoc ps ((o, w) ∷ []) new) once)

  -- the word fills the next place
  place_step : (w : Text) (rest : List Text) → Sound rest → (ps : Given) (q : Last) (p : ℕ) (used left : List Text) → Along ps q p used left
      → waiting_for q ≡ idle → has_hyphen w ≡ false → Met rest → total s (stand ps q p) (w ∷ rest) ≡ []
      → Spelled left (w ∷ rest) (so_far ps q)
  unfolding SpellsAll Fills Ahead
  place_step w rest ih ps q p used [] a still e later h =
      let parts = total_parts s (stand ps q p) w rest h in
      absurd (stray_turn s ps q w p still e a.ahead parts.0)
  place_step w rest ih ps q p used (id ∷ left) a still e later h =
      let (at, by_id, more, differs, ahead) = a.ahead in
      let turn = place_turn s ps q id w p fits.again still e at more in
      let parts = total_parts s (stand ps q p) w rest h in
      let ready = settle_needs s.rules ps q a.known (sym turn.0 ∙ parts.0) in
      let after = subst (λ (x : Walk). total s x rest ≡ []) (turn.1 (settle_rows s.rules ps q a.known ready)) parts.1 in
      let along : Along (so_far ps q) (full id w) (p + 1) (used ++ id ∷ []) left = record {
        split = a.split ∙ sym (append_assoc used (id ∷ []) left);
        ahead = ahead;
        apart = apart_rest id left options a.apart;
        known = (None, Some p, true, by_id);
        among = tt;
        fresh = fresh_last left (so_far ps q) (id, w) a.fresh.1 differs;
        once = once_more ps q a.once ready;
      } in
      let (items, new, spells, fills, once) = ih (so_far ps q) (full id w) (p + 1) (used ++ id ∷ []) left along later after in
      (positional w ∷ items, (id, w) ∷ new, (w ∷ [], rest, refl, (e, refl), spells), (new, refl, fills), subst NoneTwice (append_assoc (so_far ps q) ((id, w) ∷ []) new) once)

  -- the word is an option alone
  open_step : (o : Text) (rest : List Text) → Sound rest → (ps : Given) (q : Last) (p : ℕ) (used left : List Text) → Along ps q p used left
      → IsAmong o options → Met rest → total s (stand ps q p) (dashed o ∷ rest) ≡ []
      → Spelled left (opened q (dashed o ∷ rest)) (so_far ps q)
  open_step o rest ih ps q p used left a among later h =
      let k = of_option (KnowsOption s.rules) o options fits.known among in
      let turn = open_turn s ps q o p fits.again k in
      let parts = total_parts s (stand ps q p) (dashed o) rest h in
      let ready = settle_needs s.rules ps q a.known (sym turn.0 ∙ parts.0) in
      let after = subst (λ (x : Walk). total s x rest ≡ []) (turn.1 (settle_rows s.rules ps q a.known ready)) parts.1 in
      let along : Along (so_far ps q) (waits o) p used left = record {
        split = a.split;
        ahead = a.ahead;
        apart = a.apart;
        known = (Some o, None, false, k.by_id);
        among = among;
        fresh = a.fresh;
        once = once_more ps q a.once ready;
      } in
      subst (λ (ws : List Text). Spelled left ws (so_far ps q)) (sym (shut ps q (dashed o ∷ rest) ready))
      (ih (so_far ps q) (waits o) p used left along later after)

  -- the word is an option with its value
  with_step : (o v : Text) (rest : List Text) → Sound rest → (ps : Given) (q : Last) (p : ℕ) (used left : List Text) → Along ps q p used left
      → IsAmong o options → v ≢ [] → Met rest → total s (stand ps q p) (dashed_with o v ∷ rest) ≡ []
      → Spelled left (opened q (dashed_with o v ∷ rest)) (so_far ps q)
  unfolding SpellsAll Fills
  with_step o v rest ih ps q p used left a among some later h =
      let k = of_option (KnowsOption s.rules) o options fits.known among in
      let turn = with_turn s ps q o v p fits.again k in
      let parts = total_parts s (stand ps q p) (dashed_with o v) rest h in
      let (settle, used_free) = or_else_parts (settle_fault s.rules false (held ps q)) _ (sym turn.0 ∙ parts.0) in
      let ready = settle_needs s.rules ps q a.known settle in
      let done = settle_rows s.rules ps q a.known ready in
      let new_name = use_needs o (Some o) None false v (so_far ps q) (subst (λ (t : Held). use_fault false (single o (Some o) None false) (v ∷ []) t.rows ≡ []) done used_free) in
      let after = subst (λ (x : Walk). total s x rest ≡ []) (turn.1 done new_name) parts.1 in
      let along : Along (so_far ps q ++ (o, v) ∷ []) nothing p used left = record {
        split = a.split;
        ahead = a.ahead;
        apart = a.apart;
        known = tt;
        among = tt;
        fresh = fresh_last left (so_far ps q) (o, v) a.fresh (of_option (λ x. AllByRecursion (λ id. bytes_eq x id ≡ false) left) o options a.apart among);
        once = twice_last (so_far ps q) (o, v) (once_more ps q a.once ready) new_name;
      } in
      let (items, new, spells, fills, once) = ih (so_far ps q ++ (o, v) ∷ []) nothing p used left along later after in (
        option o v ∷ items,
        (o, v) ∷ new,
        subst (SpellsAll (option o v ∷ items)) (sym (shut ps q (dashed_with o v ∷ rest) ready)) (dashed_with o v ∷ [], rest, refl, inr (some, refl), spells),
        (new, refl, among, fills),
        subst NoneTwice (append_assoc (so_far ps q) ((o, v) ∷ []) new) once,
      )

  plain_step : (w : Text) (rest : List Text) → Sound rest → (ps : Given) (q : Last) (p : ℕ) (used left : List Text) → Along ps q p used left
      → has_hyphen w ≡ false → Met rest → total s (stand ps q p) (w ∷ rest) ≡ []
      → Spelled left (opened q (w ∷ rest)) (so_far ps q)
  plain_step w rest ih ps nothing p used left a e later h = place_step w rest ih ps nothing p used left a refl e later h
  plain_step w rest ih ps (full id v) p used left a e later h = place_step w rest ih ps (full id v) p used left a refl e later h
  plain_step w rest ih ps (waits o) p used left a e later h = value_step o w rest ih ps p used left a e later h

  step : (w : Text) (rest : List Text) → Sound rest → IsMet s [] options w → (ps : Given) (q : Last) (p : ℕ) (used left : List Text) → Along ps q p used left
      → Met rest → total s (stand ps q p) (w ∷ rest) ≡ [] → Spelled left (opened q (w ∷ rest)) (so_far ps q)
  step w rest ih (inl (inl e)) ps q p used left a later h = plain_step w rest ih ps q p used left a e later h
  step w rest ih (inl (inr (o, among, inl e))) ps q p used left a later h =
      subst (λ (x : Text). Spelled left (opened q (x ∷ rest)) (so_far ps q)) (sym e)
      (open_step o rest ih ps q p used left a among later (subst (λ (x : Text). total s (stand ps q p) (x ∷ rest) ≡ []) e h))
  step w rest ih (inl (inr (o, among, inr (v, some, e)))) ps q p used left a later h =
      subst (λ (x : Text). Spelled left (opened q (x ∷ rest)) (so_far ps q)) (sym e)
      (with_step o v rest ih ps q p used left a among some later (subst (λ (x : Text). total s (stand ps q p) (x ∷ rest) ≡ []) e h))
  step w rest ih (inr stray) ps q p used left a later h =
      absurd (stray ps q p (met_none (waiting_for q) w) (total_parts s (stand ps q p) w rest h).0)

  sound_from : (words : List Text) → Sound words
  sound_from [] ps q p used left a allowed h = at_end ps q p used left a allowed h
  sound_from (w ∷ rest) ps q p used left a allowed h = step w rest (sound_from rest) allowed.0 ps q p used left a allowed.1 h

  -- a line without a fault is spelled by items
  pub sound : (words : List Text) → Met words → total s (stand [] nothing 1) words ≡ [] → Spelled places words []
  unfolding NoneTwice
  sound words allowed h = sound_from words [] nothing 1 [] places (record {
    split = refl;
    ahead = fits.ahead;
    apart = fits.apart;
    known = tt;
    among = tt;
    fresh = all_fresh places;
    once = tt;
  }) allowed h
    where
      all_fresh : (left : List Text) → Fresh left []
      all_fresh [] = tt
      all_fresh (id ∷ left) = (refl, all_fresh left)

  -- ---- from items to no fault

  abbrev Passes : Given → Last → ℕ → List Text → Given → Type 0
  Passes ps q p words new = (total s (stand ps q p) words ≡ [])
      × (finished s.rules (fold (walked s.rules []) (stand ps q p) words).held ≡ rows (so_far ps q ++ new))

  ready_from : (ps : Given) (q : Last) (new : Given) → waiting_for q ≡ idle → NoneTwice (so_far ps q ++ new) → IsReady ps q
  ready_from ps nothing new still h = tt
  ready_from ps (full id v) new still h = twice_new ps (id, v) new (subst NoneTwice (append_assoc ps ((id, v) ∷ []) new) h)
  ready_from ps (waits o) new still h = cc still

  record Beside (ps : Given) (q : Last) (p : ℕ) (used left : List Text) : Type 0 where
    pub split : places ≡ used ++ left
    pub ahead : Ahead s.rules p left
    pub known : KnowsLast s.rules q
    pub still : waiting_for q ≡ idle
    pub there : lacks used (so_far ps q) ≡ false

  abbrev Complete : List Item → Type 0
  Complete items = (words : List Text) (ps : Given) (q : Last) (p : ℕ) (used left : List Text) (new : Given) → Beside ps q p used left
      → SpellsAll items words → Fills left options items new → NoneTwice (so_far ps q ++ new) → Passes ps q p words new

  -- one more word that has no fault
  onward : (ps qs : Given) (q r : Last) (p k : ℕ) (w : Text) (back : List Text) (new more : Given) → turn_fault s [] (stand ps q p) w ≡ []
      → walked s.rules [] (stand ps q p) w ≡ stand qs r k → so_far qs r ++ more ≡ so_far ps q ++ new → Passes qs r k back more → Passes ps q p (w ∷ back) new
  onward ps qs q r p k w back new more turn walk same h = (
    total_join s (stand ps q p) w back turn (subst (λ (x : Walk). total s x back ≡ []) (sym walk) h.0),
    ap (λ (x : Walk). finished s.rules (fold (walked s.rules []) x back).held) walk ∙ h.1 ∙ ap rows same,
  )

  end_passes : Complete []
  unfolding SpellsAll Fills walk_fault
  end_passes words ps q p used left new b spells fills once =
      let ready = ready_from ps q new b.still once in
      let whole : lacks places (so_far ps q) ≡ false = ap (λ (xs : List Text). lacks xs (so_far ps q)) (b.split ∙ ap (λ (l : List Text). used ++ l) fills.0 ∙ append-nil used) ∙ b.there in
      let free : ends s (stand ps q p) ≡ [] = end_is ps q p b.known ready ∙ ap (check_kinds false false) whole in
      let done = settle_rows s.rules ps q b.known ready in
      let kept : finished s.rules (held ps q) ≡ rows (so_far ps q) = ap (λ (h : Held). fold with_default h.rows s.rules) done ∙ no_defaults (rows (so_far ps q)) s.rules fits.plain in
      let none : so_far ps q ++ new ≡ so_far ps q = ap (λ (n : Given). so_far ps q ++ n) fills.1 ∙ append-nil (so_far ps q) in
      subst (λ (ws : List Text). Passes ps q p ws new) (sym spells) (free, kept ∙ ap rows (sym none))

  place_passes : (w : Text) (items : List Item) → Complete items → Complete (positional w ∷ items)
  unfolding SpellsAll Fills Ahead
  place_passes w items ih words ps q p used [] new b spells fills once = absurd fills
  place_passes w items ih words ps q p used (id ∷ left) new b (front, back, is, (e, one), spells) (more, all, fills) once =
      let (at, by_id, next, differs, ahead) = b.ahead in
      let ready = ready_from ps q new b.still once in
      let turn = place_turn s ps q id w p fits.again b.still e at next in
      let beside : Beside (so_far ps q) (full id w) (p + 1) (used ++ id ∷ []) left = record {
        split = b.split ∙ sym (append_assoc used (id ∷ []) left);
        ahead = ahead;
        known = (None, Some p, true, by_id);
        still = refl;
        there = lacks_used used (so_far ps q) id w b.there;
      } in
      let same : (so_far ps q ++ (id, w) ∷ []) ++ more ≡ so_far ps q ++ new = append_assoc (so_far ps q) ((id, w) ∷ []) more ∙ ap (λ (n : Given). so_far ps q ++ n) (sym all) in
      let below = ih back (so_far ps q) (full id w) (p + 1) (used ++ id ∷ []) left more beside spells fills (subst NoneTwice (sym same) once) in
      let here = onward ps (so_far ps q) q (full id w) p (p + 1) w back new more (turn.0 ∙ settle_free s.rules ps q b.known ready) (turn.1 (settle_rows s.rules ps q b.known ready)) same below in
      subst (λ (ws : List Text). Passes ps q p ws new) (sym (is ∙ ap (λ (f : List Text). f ++ back) one)) here

  option_passes : (o v : Text) (items : List Item) → Complete items → Complete (option o v ∷ items)
  unfolding SpellsAll Fills
  option_passes o v items ih words ps q p used left new b (front, back, is, inl (e, two), spells) (more, all, among, fills) once =
      let k = of_option (KnowsOption s.rules) o options fits.known among in
      let ready = ready_from ps q new b.still once in
      let turn = open_turn s ps q o p fits.again k in
      let value = value_turn s (so_far ps q) o v p e (Some o, None, false, k.by_id) in
      let beside : Beside (so_far ps q) (full o v) p used left = record {
        split = b.split;
        ahead = b.ahead;
        known = (Some o, None, false, k.by_id);
        still = refl;
        there = lacks_last used (so_far ps q) (o, v) b.there;
      } in
      let same : (so_far ps q ++ (o, v) ∷ []) ++ more ≡ so_far ps q ++ new = append_assoc (so_far ps q) ((o, v) ∷ []) more ∙ ap (λ (n : Given). so_far ps q ++ n) (sym all) in
      let below = ih back (so_far ps q) (full o v) p used left more beside spells fills (subst NoneTwice (sym same) once) in
      let valued = onward (so_far ps q) (so_far ps q) (waits o) (full o v) p p v back new more value.0 value.1 same below in
      let here = onward ps (so_far ps q) q (waits o) p p (dashed o) (v ∷ back) new new (turn.0 ∙ settle_free s.rules ps q b.known ready) (turn.1 (settle_rows s.rules ps q b.known ready)) refl valued in
      subst (λ (ws : List Text). Passes ps q p ws new) (sym (is ∙ ap (λ (f : List Text). f ++ back) two)) here
  option_passes o v items ih words ps q p used left new b (front, back, is, inr (some, one), spells) (more, all, among, fills) once =
      let k = of_option (KnowsOption s.rules) o options fits.known among in
      let ready = ready_from ps q new b.still once in
      let turn = with_turn s ps q o v p fits.again k in
      let done = settle_rows s.rules ps q b.known ready in
      let new_name = twice_new (so_far ps q) (o, v) more (subst (λ (n : Given). NoneTwice (so_far ps q ++ n)) all once) in
      let free = or_else_free (settle_fault s.rules false (held ps q)) _ (settle_free s.rules ps q b.known ready)
      (subst (λ (t : Held). use_fault false (single o (Some o) None false) (v ∷ []) t.rows ≡ []) (sym done) (use_new o (Some o) None false v (so_far ps q) new_name)) in
      let beside : Beside (so_far ps q ++ (o, v) ∷ []) nothing p used left = record {
        split = b.split;
        ahead = b.ahead;
        known = tt;
        still = refl;
        there = lacks_last used (so_far ps q) (o, v) b.there;
      } in
      let same : (so_far ps q ++ (o, v) ∷ []) ++ more ≡ so_far ps q ++ new = append_assoc (so_far ps q) ((o, v) ∷ []) more ∙ ap (λ (n : Given). so_far ps q ++ n) (sym all) in
      let below = ih back (so_far ps q ++ (o, v) ∷ []) nothing p used left more beside spells fills (subst NoneTwice (sym same) once) in
      let here = onward ps (so_far ps q ++ (o, v) ∷ []) q nothing p p (dashed_with o v) back new more (turn.0 ∙ free) (turn.1 done new_name) same below in
      subst (λ (ws : List Text). Passes ps q p ws new) (sym (is ∙ ap (λ (f : List Text). f ++ back) one)) here

  complete_from : (items : List Item) → Complete items
  complete_from [] words ps q p used left new b spells fills once = end_passes words ps q p used left new b spells fills once
  complete_from (positional w ∷ items) words ps q p used left new b spells fills once =
      place_passes w items (complete_from items) words ps q p used left new b spells fills once
  complete_from (option o v ∷ items) words ps q p used left new b spells fills once =
      option_passes o v items (complete_from items) words ps q p used left new b spells fills once

  -- a line that items spell has no fault, and gives what they give
  pub complete : (items : List Item) (words : List Text) (new : Given) → SpellsAll items words → Fills places options items new → NoneTwice new
      → Passes [] nothing 1 words new
  complete items words new spells fills once =
      complete_from items words [] nothing 1 [] places new (record { split = refl; ahead = fits.ahead; known = tt; still = refl; there = refl }) spells fills once

  -- and its words are allowed
  pub allowed_from : (items : List Item) (words : List Text) (left : List Text) (new : Given) → SpellsAll items words → Fills left options items new
      → AllByRecursion (IsAllowed options) words
  unfolding SpellsAll Fills
  allowed_from [] words left new spells fills = subst (AllByRecursion (IsAllowed options)) (sym spells) tt
  allowed_from (positional w ∷ items) words [] new spells fills = absurd fills
  allowed_from (positional w ∷ items) words (id ∷ left) new (front, back, is, (e, one), spells) (more, all, fills) =
      subst (AllByRecursion (IsAllowed options)) (sym (is ∙ ap (λ (f : List Text). f ++ back) one)) (inl e, allowed_from items back left more spells fills)
  allowed_from (option o v ∷ items) words left new (front, back, is, inl (e, two), spells) (more, all, among, fills) =
      subst (AllByRecursion (IsAllowed options)) (sym (is ∙ ap (λ (f : List Text). f ++ back) two))
      (inr (o, among, inl refl), (inl e, allowed_from items back left more spells fills))
  allowed_from (option o v ∷ items) words left new (front, back, is, inr (some, one), spells) (more, all, among, fills) =
      subst (AllByRecursion (IsAllowed options)) (sym (is ∙ ap (λ (f : List Text). f ++ back) one))
      (inr (o, among, inr (v, some, refl)), allowed_from items back left more spells fills)
