-- The machine of credits: that of `credit_ledger`.
pub use Rattle.credit_ledger.specs.Credits.{Holder, Credit, Event, is_running, is_awaited, is_entered}
pub use Rattle.credit_ledger.specs.Credits.{was_made, is_root, has_task_share, has_event_share}
pub use Rattle.credit_ledger.specs.Credits.{whole_credit, shared_halves, entered_credit, detached_halves}
pub use Rattle.credit_ledger.specs.Credits.{exchange, next_credits, credits_after, live_shares}
pub use Rattle.credit_ledger.specs.Credits.{entered_shares}
