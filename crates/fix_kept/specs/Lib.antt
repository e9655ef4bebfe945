-- 41's test in the parts that the code asks one after another.
pub mod Rest
