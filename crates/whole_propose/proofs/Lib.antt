-- What a proposal means: Meaning is the file to start from. The theorems:
--     each answer exactly when its words hold                                         Exact     proposal_says, proposal_only
--     a proposal's numbers are the nearest to the run's, with right signs             Meaning   proposed_means
--     nothing is written unless all is proposed                                       Meaning   else_stays
--     any two results allowed by the contract are equal                               Meaning   proposes_one
--     the memory that an Optimal run left is never refused with 41                    Meaning   never_41
--     a sheet that is opened with a proposal: demand 3, and what its gap means        Meaning   audited
pub mod Laws
pub mod Exact
pub mod Meaning
