-- What the definitions mean. Meaning has what the calls promise, demand 3 among it, and is the file to start from. The
-- theorems behind it, each under 01's words for it where they are quoted:
--     opening and edits leave a true sheet, which opening would leave as it is       Reached    opened_good, edit_good, opened_alike
--     "14 is never given on a true sheet"                                            Reached    edit_never_14, verdict_never_14
--     11 to 16 and each verdict, each exactly when its words hold                    Exact      opening_says, -only, edit_says, -only, verdict_says, -only
--     the table of touched cells                                                     Touched    cell-stays
--     "its cell takes the number handed in", "mark the bound present .. absent"      Touched    cell_takes, reader_reads
--     the floor, and "gap .. never below 0 on a true sheet"                          Floor      floor_theorem, gap_theorem
--     "Kept sizes", "B 2^62"                                                         KeptSizes  kept-in
--     "Any two results allowed by a promise are shown equal"                         Settled    opens-one, edits_one, judges_one
-- Moves and After say the same of the moved numbers in the shape in which the code reckons them.
pub mod Bools
pub mod Ring
pub mod Sums
pub mod Sizes
pub mod Fronts
pub mod Local
pub mod Takes
pub mod Tests
pub mod Exact
pub mod TrueSheet
pub mod KeptSizes
pub mod Stays
pub mod Reached
pub mod Touched
pub mod Moves
pub mod After
pub mod Floor
pub mod Settled
pub mod Meaning
