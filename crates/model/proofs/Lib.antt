-- What is proved of the model. Laws of lists, lookups and verdicts heard: Basics, Lookups, Said. Laws of the definitions: Entries (known
-- transactions), Outcomes (decisions), Holdings (tokens), Refusals (what a table that refuses nothing says), Effects (what a call can do).
-- The invariant: Invariant (one shard),
-- Local (what each part of the local step yields), Steps (every list of calls).
-- Demand 3: Decisions, Spending and Serial (the serial ledger), Order, and whole in Theorem; Bridge carries it to code.
-- Further laws: Votes (how many bring a decision), OneNo (the abort that one no brings), Turned (aborts that free tokens), Capacity (the limits),
-- Laws, HeldOff (17), Tables (refusals), Brought (a vote that brings its transaction), Reported and TrueFindings (what a shard
-- reports of the inputs of a known transaction).
-- Examples plays cases of the papers.
pub mod Basics
pub mod Lookups
pub mod Said
pub mod Entries
pub mod Outcomes
pub mod Holdings
pub mod Refusals
pub mod Effects
pub mod Invariant
pub mod Local
pub mod Steps
pub mod Decisions
pub mod Spending
pub mod Serial
pub mod Order
pub mod Theorem
pub mod Votes
pub mod Capacity
pub mod Laws
pub mod OneNo
pub mod Turned
pub mod Tables
pub mod Brought
pub mod HeldOff
pub mod Reported
pub mod TrueFindings
pub mod Bridge
pub mod Examples
