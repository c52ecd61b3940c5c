-- What the program promises. Read Headline first: it quotes nothing but definitions of ompt_events. Then
-- Audits (`Reports.kept` ties the headline to an answer), Recordings (which trace `record` writes),
-- Upgradings (which one `upgrade` writes), Watchings (what `watch` claims), Reports, Orders and FindingTexts (what is printed), Devices,
-- Statuses, and Commands, Packings, FileFaults, Tellings and Programs (from the command line to the exit
-- status).
pub mod Headline
pub mod Audits
pub mod Recordings
pub mod Upgradings
pub mod Watchings
pub mod Reports
pub mod Orders
pub mod FindingTexts
pub mod Devices
pub mod Statuses
pub mod Commands
pub mod Packings
pub mod FileFaults
pub mod Tellings
pub mod Programs
