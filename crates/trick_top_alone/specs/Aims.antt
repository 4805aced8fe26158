-- What is done with a simulation whose plan is accepted.

pub data Aim : Type 0 where
  -- it is run, under the journal where there is one, and else without clients
  Run : Aim
  -- it is found right, and nothing is run
  Check : Aim
  -- its cells are listed
  List : Aim
