-- the items of an array in turn
pub mod Items
-- what bytes say
pub mod Says
-- the words of a generator in turn
pub mod Storm
