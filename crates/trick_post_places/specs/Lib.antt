-- What a list of entries leaves of a post, and which lists there are.
pub mod Histories
-- What lies behind the turn, and which history it stands for.
pub mod Places
-- What clauses say of a call of the desk or of a clerk.
pub mod Answers
