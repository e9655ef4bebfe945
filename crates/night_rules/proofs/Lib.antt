-- Laws of the night's definitions, and what these mean: Meaning is the file to start from. The theorems:
--     the solver's plan has exactly the sheet's numbers                       Doubles    same-numbers
--                                                                             Numbers    handed_over
--     a stage's run is a solve of its own plan (demand 2)                     Left       run_promised
--     after a 0 the proposal is made exactly when every number is Whole       Proposals  whole_exactly
--     a sheet is opened exactly when 02's words hold                          Stages     opened_exactly
--     each audit exactly when its words hold                                  Stages     audit_says, audit_only
--     demand 3 for a stage's own plan, from the run's doubles to the gap      Stages     stage_audited
--     each answer exactly when its words hold and none of the earlier         Answers    night_says, night_only
--     the second stage's plan is the plan with the alarm row                  Second     second_exactly, second_entries
--     the whole numbers as they are left                                      Whole      leaves_so
--     the alarm cost of what is handed out                                    Alarms     first_alarms, handed_alarms
pub mod Arrays
pub mod Doubles
pub mod Numbers
pub mod Left
pub mod Proposals
pub mod Shaped
pub mod Stages
pub mod Answers
pub mod Second
pub mod Whole
pub mod Alarms
pub mod Meaning
