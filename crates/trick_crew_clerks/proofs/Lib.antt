-- Facts of all elements of a list, and beginnings of lists.
pub mod Lists
-- What a shift is made of may cross threads.
pub mod Parts
-- What a clerk adds to the history of its post.
pub mod Serving
-- Clerks that are tended one after another.
pub mod Tended
-- Works that are started one after another.
pub mod Sharing
-- The clerks of a yard are of one post.
pub mod Posted
-- Clerks that are taken in one after another.
pub mod Taking
