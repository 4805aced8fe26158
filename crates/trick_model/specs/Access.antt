-- Which cells jobs may read and write, the scope of a thread, and what asynchronous work may reach.
use Rattle.std.specs.List.{list_any}
use Rattle.std.specs.Prelude.{ℕ, ◌<◌, Bool, ◌||◌, IsTrue, List, filter, length}
use Rattle.trick_lang.specs.Access.{is_in}
use Rattle.trick_model.specs.Plan.{Plan, is_on_async, jobs_of, numbers_from}
use Rattle.trick_model.specs.declared.thread.Thread.{Thread}

-- a job may read the cell
abbrev pub reads_cell : Plan → ℕ → ℕ → Bool
reads_cell p k cell = is_in (p.reads k) cell

-- a job may write the cell
abbrev pub writes_cell : Plan → ℕ → ℕ → Bool
writes_cell p k cell = is_in (p.writes k) cell

-- some of these jobs may read the cell
abbrev pub may_read : Plan → List ℕ → ℕ → Bool
may_read p ks cell = list_any (λ k. reads_cell p k cell) ks

-- some of these jobs may write the cell
abbrev pub may_write : Plan → List ℕ → ℕ → Bool
may_write p ks cell = list_any (λ k. writes_cell p k cell) ks

-- The scope of a thread is the set of all cells that its jobs may read or write, in cell order.
abbrev pub scope : Plan → Thread → List ℕ
scope p thread =
    let ks = jobs_of p.jobs thread in
    filter (λ cell. may_read p ks cell || may_write p ks cell) (numbers_from 0 p.names)

-- The asynchronous reach is the least set that has every cell that a job of an asynchronous thread
-- may write, and every cell that a job may write which may read a cell of the set.
pub data IsReached (p : Plan) : ℕ → Type 0 where
  Source : (k cell : ℕ) → k < length p.jobs → IsTrue (is_on_async p.jobs p.threads k)
      → IsTrue (writes_cell p k cell) → IsReached p cell
  Passed : (k from cell : ℕ) → k < length p.jobs → IsReached p from
      → IsTrue (reads_cell p k from) → IsTrue (writes_cell p k cell) → IsReached p cell
