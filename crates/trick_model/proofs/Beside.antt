-- Threads that work beside the tics.
use Rattle.std.proofs.Common.{refl}
use Rattle.std.specs.Fmt.{digits}
use Rattle.std.specs.Int.{int_wrap}
use Rattle.std.specs.Prelude.{pos, int_lt, true, false, [], ◌∷◌, ◌++◌, codes}
use Rattle.trick_lang.specs.declared.class.Class.TheVariants as class
use Rattle.trick_lang.specs.declared.fault.FaultKind.TheVariants as kind
use Rattle.trick_model.proofs.Samples.{Ends, all_on, cells, effects, one_of, job, main_thread, plan_of_cells, plus, scheduled, stops, stores, read, thread, turns}
use Rattle.trick_model.specs.Plan.{Plan}
use Rattle.trick_model.specs.Run.{IsOwnJournal, lists_of, start}
use Rattle.trick_model.specs.State.{number_at}
use Rattle.trick_model.specs.declared.deed.Deed.TheVariants as deed
use Rattle.trick_model.specs.declared.entry.Entry.TheVariants.{Publish}
use Rattle.trick_model.specs.declared.mode.Mode.TheVariants as mode
use Rattle.trick_model.specs.declared.thread.Process.TheVariants as process

-- thread 0 counts n at each tic, and thread 1 copies n to y
abbrev pub copying : Plan
copying = record (plan_of_cells (codes "o.n" ∷ codes "o.y" ∷ [])) {
  jobs = scheduled 0 1 0 ∷ scheduled 1 3 1 ∷ [];
  job_names = codes "o.count" ∷ codes "o.copy" ∷ [];
  effect = effects (stores ((0, plus 0 (pos 1)) ∷ []) ∷ stores ((1, λ m. number_at m 0) ∷ []) ∷ []);
  reads = cells ((0 ∷ []) ∷ (0 ∷ []) ∷ []);
  writes = cells ((0 ∷ []) ∷ (1 ∷ []) ∷ []);
  jobs_on = all_on 2;
}

-- ---- must-finish

-- the copy is on a must-finish thread of cycle 3
abbrev pub finishing : Plan
finishing = record copying {
  frame = 5;
  limit = 11;
  threads = main_thread ∷ thread 1 process.MustFinish 3 ∷ [];
  groups = record { name = codes "g"; cycle = 1; changes = false; cells = record { 0 = 0 } ∷ record { 0 = 1 } ∷ [] } ∷ [];
  groups_on = all_on 1;
}

-- What was taken at one end of a cycle is published at the next one, before the jobs of that tic: 0 at
-- tic 3, 3 at tic 6 and 6 at tic 9.
pub finishing_ends : Ends finishing (start finishing) (turns 3) (
    (codes "final.chk", codes "checkpoint = 1;\nturn = 3;\ntic = 11;\nlimit = 11;\nmode = Shutdown;\no.n = 11;\no.y = 6;\n" ++ codes "job[0] = 1;\njob[1] = 1;\ngroup[0] = 1;\ntaken[1] = held;\ntaken[1].o.n = 9;\ntaken[1].o.y = 6;\n" ++ codes "taken[1].job[1] = 1;\nfaults = 0;\nend;\n")
    ∷ (codes "log_g.csv", codes "tic,o.n,o.y\n0,1,0\n1,2,0\n2,3,0\n3,4,0\n4,5,0\n5,6,0\n6,7,3\n7,8,3\n8,9,3\n9,10,6\n10,11,6\n")
    ∷ [])
unfolding int_wrap digits
finishing_ends = record { goes = refl; over = refl; files = refl }

-- Thread 1 copies z to y, and thread 2 copies n to z, both with a cycle of 2 tics. At tic 5 the job of
-- thread 2 is turned off.
abbrev pub relay : Plan
relay = record (plan_of_cells (codes "o.n" ∷ codes "o.y" ∷ codes "o.z" ∷ [])) {
  limit = 9;
  jobs = scheduled 0 1 0 ∷ scheduled 1 2 1 ∷ scheduled 2 2 2 ∷ [];
  job_names = codes "o.count" ∷ codes "o.second" ∷ codes "o.first" ∷ [];
  effect = effects (stores ((0, plus 0 (pos 1)) ∷ []) ∷ stores ((1, λ m. number_at m 2) ∷ []) ∷ stores ((2, λ m. number_at m 0) ∷ []) ∷ []);
  reads = cells ((0 ∷ []) ∷ (2 ∷ []) ∷ (0 ∷ []) ∷ []);
  writes = cells ((0 ∷ []) ∷ (1 ∷ []) ∷ (2 ∷ []) ∷ []);
  threads = main_thread ∷ thread 1 process.MustFinish 2 ∷ thread 2 process.MustFinish 2 ∷ [];
  read_ats = read 5 (deed.SetJob (record { 0 = 2 }) false ∷ []) ∷ [];
  groups = record { name = codes "g"; cycle = 2; changes = false; cells = record { 0 = 1 } ∷ record { 0 = 2 } ∷ [] } ∷ [];
  jobs_on = all_on 3;
  groups_on = all_on 1;
}

-- Both publish before any of them takes, so that thread 1 takes at tic 4 what thread 2 publishes there.
-- At tic 6 the job of thread 2 still counts as on, as it was when its cells were taken; at tic 8 it is
-- off, and z gets the number that was taken.
pub relay_ends : Ends relay (start relay) (turns 5) (
    (codes "log_g.csv", codes "tic,o.y,o.z\n0,0,0\n2,0,0\n4,0,2\n6,2,4\n8,4,4\n") ∷ [])
unfolding int_wrap digits
relay_ends = record { goes = refl; over = refl; files = refl }

-- ---- asynchronous

-- the copy is on an asynchronous thread
abbrev pub rounds : Plan
rounds = record copying {
  jobs = scheduled 0 2 0 ∷ scheduled 1 2 1 ∷ [];
  threads = main_thread ∷ thread 1 process.Async 2 ∷ [];
  groups = record { name = codes "g"; cycle = 2; changes = false; cells = record { 0 = 0 } ∷ [] } ∷ [];
  groups_on = all_on 1;
}

-- Without clients each round is published in the next run frame.
pub rounds_are_serial : IsOwnJournal rounds (start rounds) ([] ∷ (Publish 1 ∷ []) ∷ (Publish 1 ∷ []) ∷ (Publish 1 ∷ []) ∷ [])
unfolding int_wrap digits
rounds_are_serial = record {
  fits = record { goes = refl; over = refl };
  published = (refl, (refl, (refl, (refl, tt))));
}

pub rounds_end : Ends rounds (start rounds) ([] ∷ (Publish 1 ∷ []) ∷ (Publish 1 ∷ []) ∷ (Publish 1 ∷ []) ∷ []) (
    (codes "final.chk", codes "checkpoint = 1;\nturn = 4;\ntic = 7;\nlimit = 7;\nmode = Shutdown;\no.n = 4;\no.y = 3;\n" ++ codes "job[0] = 1;\njob[1] = 1;\ngroup[0] = 1;\ntaken[1] = held;\ntaken[1].o.n = 4;\ntaken[1].o.y = 3;\n" ++ codes "taken[1].job[1] = 1;\nfaults = 0;\nend;\n")
    ∷ (codes "journal.txt", codes "tricks journal 1\nfrom 0\n1 publish 1\n2 publish 1\n3 publish 1\nend 4\n")
    ∷ (codes "log_g.csv", codes "tic,o.n\n0,1\n2,2\n4,3\n6,4\n")
    ∷ [])
unfolding int_wrap digits
rounds_end = record { goes = refl; over = refl; files = refl }

-- A journal that publishes in turn 3 alone gives another y and the same log.
pub late_rounds_end : Ends rounds (start rounds) (lists_of ((3, Publish 1) ∷ []) 4 0 mode.Run) (
    (codes "final.chk", codes "checkpoint = 1;\nturn = 4;\ntic = 7;\nlimit = 7;\nmode = Shutdown;\no.n = 4;\no.y = 1;\n" ++ codes "job[0] = 1;\njob[1] = 1;\ngroup[0] = 1;\ntaken[1] = held;\ntaken[1].o.n = 4;\ntaken[1].o.y = 1;\n" ++ codes "taken[1].job[1] = 1;\nfaults = 0;\nend;\n")
    ∷ (codes "journal.txt", codes "tricks journal 1\nfrom 0\n3 publish 1\nend 4\n")
    ∷ (codes "log_g.csv", codes "tic,o.n\n0,1\n2,2\n4,3\n6,4\n")
    ∷ [])
unfolding int_wrap digits
late_rounds_end = record { goes = refl; over = refl; files = refl }

-- A publication of a round that is not there does nothing and is not written again.
pub idle_publication_ends : Ends rounds (start rounds) ((Publish 1 ∷ []) ∷ turns 3) (
    (codes "journal.txt", codes "tricks journal 1\nfrom 0\nend 4\n") ∷ [])
unfolding int_wrap digits
idle_publication_ends = record { goes = refl; over = refl; files = refl }

-- A run whose limit is 0 is over at once: nothing is taken and no row is written.
abbrev pub stopped : Plan
stopped = record rounds {
  limit = 0;
  groups = record { name = codes "g"; cycle = 2; changes = true; cells = record { 0 = 0 } ∷ [] } ∷ [];
  groups_on = record { on = false ∷ [] };
}

pub stopped_ends : Ends stopped (start stopped) [] (
    (codes "final.chk", codes "checkpoint = 1;\nturn = 0;\ntic = 0;\nlimit = 0;\nmode = Shutdown;\no.n = 0;\no.y = 0;\n" ++ codes "job[0] = 1;\njob[1] = 1;\ngroup[0] = 0;\nlast[0] = none;\ntaken[1] = none;\nfaults = 0;\nend;\n")
    ∷ (codes "journal.txt", codes "tricks journal 1\nfrom 0\nend 0\n")
    ∷ (codes "log_g.csv", codes "tic,o.n\n")
    ∷ [])
unfolding int_wrap digits
stopped_ends = record { goes = refl; over = refl; files = refl }

-- ---- faults, and their tics

-- An initialization job divides by 0. On thread 0 a job counts n up to 3 and stops from then on. On
-- must-finish thread 2 a job counts q and stores 6 / (2 - n) in r. On asynchronous thread 1 a job stops.
abbrev pub faulting : Plan
faulting = record (plan_of_cells (codes "o.n" ∷ codes "o.q" ∷ codes "o.r" ∷ codes "p.z" ∷ [])) {
  limit = 6;
  jobs =
      job class.Initialization 0 ∷ scheduled 0 1 1 ∷ scheduled 2 2 2
      ∷ record (scheduled 1 5 0) { object = 1 } ∷ [];
  job_names = codes "o.init" ∷ codes "o.count" ∷ codes "o.amf" ∷ codes "p.run" ∷ [];
  effect = effects (
      stops kind.DivideByZero 9
      ∷ one_of (λ m. int_lt (number_at m 0) (pos 3)) (stores ((0, plus 0 (pos 1)) ∷ [])) (stops kind.IndexOutOfRange 4)
      ∷ one_of (λ m. int_lt (number_at m 0) (pos 2)) (stores ((1, plus 1 (pos 1)) ∷ (2, λ m. pos 3) ∷ [])) (stops kind.DivideByZero 7)
      ∷ one_of (λ m. int_lt (number_at m 0) (pos 3)) (stores ((3, λ m. pos 0) ∷ [])) (stops kind.DivideByZero 15)
      ∷ []);
  reads = cells ([] ∷ (0 ∷ []) ∷ (0 ∷ 1 ∷ []) ∷ (0 ∷ []) ∷ []);
  writes = cells ([] ∷ (0 ∷ []) ∷ (1 ∷ 2 ∷ []) ∷ (3 ∷ []) ∷ []);
  threads = main_thread ∷ thread 1 process.Async 2 ∷ thread 2 process.MustFinish 4 ∷ [];
  jobs_on = all_on 4;
}

-- The fault of a round has the tic of publication.
pub faulting_ends : Ends faulting (start faulting) ([] ∷ (Publish 1 ∷ []) ∷ (Publish 1 ∷ []) ∷ []) (
    (codes "faults.txt", codes "0 o.init 1 DivideByZero 9\n3 o.count 1 IndexOutOfRange 4\n4 p.run 1 DivideByZero 15\n" ++ codes "4 o.count 1 IndexOutOfRange 4\n5 o.count 1 IndexOutOfRange 4\ntotal 5\n")
    ∷ (codes "final.chk", codes "checkpoint = 1;\nturn = 3;\ntic = 6;\nlimit = 6;\nmode = Shutdown;\no.n = 3;\no.q = 2;\no.r = 3;\np.z = 0;\n" ++ codes "job[0] = 1;\njob[1] = 1;\njob[2] = 1;\njob[3] = 1;\ntaken[1] = held;\ntaken[1].o.n = 3;\ntaken[1].p.z = 0;\n" ++ codes "taken[1].job[3] = 1;\ntaken[2] = held;\ntaken[2].o.n = 3;\ntaken[2].o.q = 2;\ntaken[2].o.r = 3;\ntaken[2].job[2] = 1;\n" ++ codes "faults = 5;\nfault[0] = 0 o.init 1 DivideByZero 9;\nfault[1] = 3 o.count 1 IndexOutOfRange 4;\n" ++ codes "fault[2] = 4 p.run 1 DivideByZero 15;\nfault[3] = 4 o.count 1 IndexOutOfRange 4;\n" ++ codes "fault[4] = 5 o.count 1 IndexOutOfRange 4;\nend;\n")
    ∷ (codes "journal.txt", codes "tricks journal 1\nfrom 0\n1 publish 1\n2 publish 1\nend 3\n")
    ∷ [])
unfolding int_wrap digits
faulting_ends = record { goes = refl; over = refl; files = refl }
