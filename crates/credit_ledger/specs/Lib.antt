-- The shares of a credit, their machine (`Credits`), and the purse of shares that have come back (`Trees`).
-- Read `Shares` first, then `Credits`.
pub mod Shares
pub mod Credits
pub mod Paths
pub mod Links
pub mod Trees
-- The ledger of finished tasks, and the ledger that threads share. Read `Entries` first (what an entry brings
-- back, and what a ledger holds), then `Histories` and `Seats`.
pub mod Entries
pub mod Histories
pub mod Codes
pub mod Seats
pub mod Places
-- What the finished tasks of a trace enter into a ledger, and which credit the ledger holds then.
pub mod TraceEntries
pub mod TraceCredits
pub mod TraceMakers
pub mod TraceLedger
