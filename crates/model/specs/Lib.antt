-- The reference model (document 01's book) and demand 3. To read what is claimed, start with Steps (what a shard notes, and the steps), go on with
-- Shard (refusals, one call at a shard), Cluster (one call at eight shards) and Model (every list of calls, with the log), and end with Demand and Findings.
-- Fit is what holds of every ledger that the calls build. Lists, Answers and Said are small helpers. What is proved of these definitions is in
-- proofs/: Theorem has demand 3, Bridge carries it to code.
pub mod Lists
pub mod Answers
pub mod Said
pub mod Steps
pub mod Shard
pub mod Fit
pub mod Cluster
pub mod Totals
pub mod Model
pub mod Demand
pub mod Findings
