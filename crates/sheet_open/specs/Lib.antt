-- The floor and the counts at activities and prices that stand in arrays.
pub mod At
