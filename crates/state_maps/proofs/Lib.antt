-- What the test means.
--     it passes exactly when the rows are the plan's and the two maps each other's inverse    Exact   fine_exactly
--     it fails exactly when 41's words hold                                                   Exact   broken_exactly
--     what a run leaves passes it, after every answer but a refusal                           Left    left_kept
pub mod Laws
pub mod Onto
pub mod Exact
pub mod Left
