-- the worked bodies and conditions are read
mod ReadBodies
-- the worked methods are refused
mod RefusedBodies
-- the worked simulation definitions are read
mod ReadFiles
-- the worked simulation definitions are refused
mod RefusedFiles
