-- Relations between the shares of a credit: those of `credit_ledger`.
pub use Rattle.credit_ledger.specs.Shares.{is_same_half, begins_with, overlaps, overlaps_either, keep_half}
pub use Rattle.credit_ledger.specs.Shares.{give_half, is_give, is_too_deep, start_share, finish_share}
pub use Rattle.credit_ledger.specs.Shares.{IsAsLongAs, Tile, Hold}
