-- Ask 11: two map sets joined
pub mod FormedDecided
pub mod Join
-- the six lists of a joined set; joined into lent areas
pub mod Beside
pub mod Into
-- Ask 12: three, in either grouping; any number
pub mod EitherWay
pub mod Grouping
