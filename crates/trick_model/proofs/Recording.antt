-- Rows of groups, checkpoints, and a run that goes on from one.
use Rattle.std.proofs.Common.{refl}
use Rattle.std.specs.Fmt.{digits}
use Rattle.std.specs.Int.{int_wrap}
use Rattle.std.specs.Prelude.{ℕ, pos, true, false, List, [], ◌∷◌, ◌++◌, codes}
use Rattle.trick_model.proofs.Samples.{Ends, all_on, cells, effects, main_thread, plan_of_cells, plus, read, scheduled, stores, thread, turns}
use Rattle.trick_model.specs.Plan.{Plan}
use Rattle.trick_model.specs.Run.{after_turns, opened, start}
use Rattle.trick_model.specs.State.{State, number_at}
use Rattle.trick_model.specs.declared.deed.Deed.TheVariants as deed
use Rattle.trick_model.specs.declared.thread.Process.TheVariants as process

-- ---- rows on change

-- a cell that is 5, then 7 from tic 4 on, and 5 again from tic 8 on
abbrev pub changing : Plan
changing = record (plan_of_cells (codes "o.v" ∷ [])) {
  limit = 9;
  assigns = (record { 0 = 0 }, pos 5) ∷ [];
  read_ats = read 4 (deed.SetCell (record { 0 = 0 }) (pos 7) ∷ []) ∷ read 8 (deed.SetCell (record { 0 = 0 }) (pos 5) ∷ []) ∷ [];
  groups = record { name = codes "g"; cycle = 2; changes = true; cells = record { 0 = 0 } ∷ [] } ∷ [];
  groups_on = all_on 1;
}

pub changing_ends : Ends changing (start changing) (turns 5) (
    (codes "final.chk", codes "checkpoint = 1;\nturn = 5;\ntic = 9;\nlimit = 9;\nmode = Shutdown;\no.v = 5;\n" ++ codes "group[0] = 1;\nlast[0] = 5;\nfaults = 0;\nend;\n")
    ∷ (codes "journal.txt", codes "tricks journal 1\nfrom 0\nend 5\n")
    ∷ (codes "log_g.csv", codes "tic,o.v\n0,5\n4,7\n8,5\n")
    ∷ [])
unfolding int_wrap digits
changing_ends = record { goes = refl; over = refl; files = refl }

-- A group that is off writes no row and keeps its last one: from tic 2 to tic 5 group g is off. Group h
-- has no variables: its rows are the tic alone, and on change it has one.
abbrev pub muted : Plan
muted = record changing {
  read_ats =
      read 2 (deed.SetGroup 0 false ∷ []) ∷ read 4 (deed.SetCell (record { 0 = 0 }) (pos 7) ∷ [])
      ∷ read 6 (deed.SetGroup 0 true ∷ []) ∷ [];
  groups =
      record { name = codes "g"; cycle = 2; changes = true; cells = record { 0 = 0 } ∷ record { 0 = 0 } ∷ [] }
      ∷ record { name = codes "h"; cycle = 2; changes = true; cells = [] } ∷ [];
  groups_on = all_on 2;
}

pub muted_ends : Ends muted (start muted) (turns 5) (
    (codes "final.chk", codes "checkpoint = 1;\nturn = 5;\ntic = 9;\nlimit = 9;\nmode = Shutdown;\no.v = 7;\n" ++ codes "group[0] = 1;\nlast[0] = 7,7;\ngroup[1] = 1;\nlast[1] = ;\nfaults = 0;\nend;\n")
    ∷ (codes "log_g.csv", codes "tic,o.v,o.v\n0,5,5\n6,7,7\n")
    ∷ (codes "log_h.csv", codes "tic\n0\n")
    ∷ [])
unfolding int_wrap digits
muted_ends = record { goes = refl; over = refl; files = refl }

-- ---- a checkpoint

-- n is counted at each tic, and a must-finish thread of cycle 4 copies it to y, which is recorded on
-- change; a checkpoint is asked for at tic 5
abbrev pub saving : Plan
saving = record (plan_of_cells (codes "o.n" ∷ codes "o.y" ∷ [])) {
  frame = 1;
  limit = 10;
  jobs = scheduled 0 1 0 ∷ scheduled 1 4 1 ∷ [];
  job_names = codes "o.count" ∷ codes "o.copy" ∷ [];
  effect = effects (stores ((0, plus 0 (pos 1)) ∷ []) ∷ stores ((1, λ m. number_at m 0) ∷ []) ∷ []);
  reads = cells ((0 ∷ []) ∷ (0 ∷ []) ∷ []);
  writes = cells ((0 ∷ []) ∷ (1 ∷ []) ∷ []);
  threads = main_thread ∷ thread 1 process.MustFinish 4 ∷ [];
  groups = record { name = codes "g"; cycle = 1; changes = true; cells = record { 0 = 1 } ∷ [] } ∷ [];
  read_ats = read 5 (deed.Checkpoint ∷ []) ∷ [];
  jobs_on = all_on 2;
  groups_on = all_on 1;
}

-- the last checkpoint, of the whole run and of one that goes on
abbrev pub saved_end : List ℕ
saved_end =
    codes "checkpoint = 1;\nturn = 10;\ntic = 10;\nlimit = 10;\nmode = Shutdown;\no.n = 10;\no.y = 4;\n"
    ++ codes "job[0] = 1;\njob[1] = 1;\ngroup[0] = 1;\nlast[0] = 4;\ntaken[1] = held;\ntaken[1].o.n = 8;\n"
    ++ codes "taken[1].o.y = 4;\ntaken[1].job[1] = 1;\nfaults = 0;\nend;\n"

-- It is written at the end of the turn, with what was taken and with the last row.
pub saving_ends : Ends saving (start saving) (turns 10) (
    (codes "chkpnt_6.chk", codes "checkpoint = 1;\nturn = 6;\ntic = 6;\nlimit = 10;\nmode = Run;\no.n = 6;\no.y = 0;\n" ++ codes "job[0] = 1;\njob[1] = 1;\ngroup[0] = 1;\nlast[0] = 0;\ntaken[1] = held;\ntaken[1].o.n = 4;\n" ++ codes "taken[1].o.y = 0;\ntaken[1].job[1] = 1;\nfaults = 0;\nend;\n")
    ∷ (codes "final.chk", saved_end)
    ∷ (codes "log_g.csv", codes "tic,o.y\n0,0\n8,4\n")
    ∷ [])
unfolding int_wrap digits
saving_ends = record { goes = refl; over = refl; files = refl }

-- the state after six turns
abbrev pub saved : State
saved = (after_turns saving (opened (start saving)) (turns 6)).state

-- The run from there writes the rest: the same end, and the rows of the later turns.
pub saved_goes_on : Ends saving saved (turns 4) (
    (codes "final.chk", saved_end)
    ∷ (codes "journal.txt", codes "tricks journal 1\nfrom 6\nend 10\n")
    ∷ (codes "log_g.csv", codes "tic,o.y\n8,4\n")
    ∷ [])
unfolding int_wrap digits
saved_goes_on = record { goes = refl; over = refl; files = refl }
