-- Short words for contracts of crates above.
use Rattle.std.specs.Prelude.{◌≡◌, []}
use Rattle.atomic_table.specs.Seated.{TableId}
use Rattle.credit_ledger.specs.declared.shared.News.{News}
use Rattle.credit_ledger.specs.declared.shared.Seat.{Seat}
use Rattle.credit_ledger.specs.declared.shared.SharedLedger.{SharedLedger}
use Rattle.credit_ledger.specs.declared.view.View.{View}

-- which ledger it is
abbrev pub ledger_id : SharedLedger → TableId
ledger_id ledger = ledger.board.shared.table_id

-- the ledger that the seat is of
abbrev pub seat_id : Seat → TableId
seat_id seat = seat.place.table_id

-- what the seat knows
abbrev pub view_of : Seat → View
view_of seat = seat.place.me.0

-- the seat has made no call, and has taken in no other one
abbrev pub IsUnused : Seat → Type 0
IsUnused seat = ((view_of seat).own ≡ []) × ((view_of seat).claims ≡ [])

-- the ledger that the news are of
abbrev pub news_id : News → TableId
news_id news = news.place.table_id

-- what they tell
abbrev pub view_told : News → View
view_told news = news.place.me.0
