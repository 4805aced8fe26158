-- Where a run stopped.
use Rattle.std.proofs.Common.{◌≡◌, ◌∙◌, List, [], ◌∷◌, ◌++◌, Bool, ap, append_assoc, subst}
use Rattle.trick_base.specs.Files.{Write}
use Rattle.trick_model.specs.Files.{turns_said, turns_writes}
use Rattle.trick_model.specs.Plan.{Plan}
use Rattle.trick_model.specs.Run.{opened}
use Rattle.trick_model.specs.Session.{Message}
use Rattle.trick_model.specs.State.{State}
use Rattle.trick_model.specs.declared.entry.Entry.{Entry}
use Rattle.trick_outside.specs.Calls.{Call}
use Rattle.trick_post_work.specs.declared.posts.Posts.{Ghosts as PostsGhosts}
use Rattle.trick_exec_meaning.specs.Chosen.{AreAsked, ChoseTo, but_last, of_all}
use Rattle.trick_exec_meaning.specs.Stops.{StopsAt, at_end, before, between, in_turn}
use Rattle.trick_exec_tic.proofs.StepLemmas.{steps_of-append}
use Rattle.trick_exec_tic.specs.Steps.{steps_of}

-- writes, and then calls after them
pub parts_of : (head writes : List Write) (calls : List Call) → steps_of (head ++ writes) ++ calls ≡ steps_of head ++ (steps_of writes ++ calls)
parts_of head writes calls =
    ap (λ (c : List Call). c ++ calls) (steps_of-append head writes) ∙ append_assoc (steps_of head) (steps_of writes) calls

-- the same place, where these writes were done before
pub stops_behind : {p : Plan} {s : State} {lists : List (List Entry)} {calls : List Call} {sent : List Message} (head : List Write)
    → StopsAt p s [] lists calls sent → StopsAt p s head lists (steps_of head ++ calls) sent
stops_behind {p = p} {s = s} head (before [] part) = subst (λ (c : List Call). StopsAt p s head [] c []) (steps_of-append head []) (between [])
stops_behind {p = p} {s = s} head (before (call ∷ calls) part) = absurd part
stops_behind {p = p} {s = s} head (between lists) =
    subst (λ (c : List Call). StopsAt p s head lists c (turns_said p (opened s) lists)) (steps_of-append head (turns_writes p (opened s) lists)) (between lists)
stops_behind {p = p} {s = s} head (in_turn lists entries calls said so) =
    subst (λ (c : List Call). StopsAt p s head (lists ++ entries ∷ []) c (turns_said p (opened s) lists ++ said))
    (parts_of head (turns_writes p (opened s) lists) calls) (in_turn lists entries calls said so)
stops_behind {p = p} {s = s} head (at_end lists calls fits part) =
    subst (λ (c : List Call). StopsAt p s head lists c (turns_said p (opened s) lists))
    (parts_of head (turns_writes p (opened s) lists) calls) (at_end lists calls fits part)

-- the same publications, where these writes were done before
pub chose_behind : {Q : Type 0} {posts : PostsGhosts Q} {decides : Bool} {p : Plan} {s : State} {old new : Q} {lists : List (List Entry)} {calls : List Call} (head : List Write)
    → ChoseTo posts decides p s [] old new lists calls → ChoseTo posts decides p s head old new lists (steps_of head ++ calls)
chose_behind head (of_all lists calls asked) = of_all lists (steps_of head ++ calls) asked
chose_behind {posts = posts} {decides = decides} {p = p} {s = s} {old = old} {new = new} head (but_last lists entries part mid asked is) =
    subst (λ (c : List Call). ChoseTo posts decides p s head old new (lists ++ entries ∷ []) c)
    (parts_of head (turns_writes p (opened s) lists) part) (but_last lists entries part mid asked is)

-- the same where the posts came from others
pub chose_from : {Q : Type 0} {posts : PostsGhosts Q} {decides : Bool} {p : Plan} {s : State} {head : List Write} {mid new : Q} {lists : List (List Entry)} {calls : List Call} (old : Q)
    → ((now : Q) (early : List (List Entry)) → AreAsked posts decides p s early mid now → AreAsked posts decides p s early old now)
    → ChoseTo posts decides p s head mid new lists calls → ChoseTo posts decides p s head old new lists calls
chose_from {new = new} old first (of_all lists calls asked) = of_all lists calls (first new lists asked)
chose_from old first (but_last lists entries part now asked is) = but_last lists entries part now (first now lists asked) is
