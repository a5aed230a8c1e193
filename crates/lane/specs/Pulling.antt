-- What holds of a SYNC at each point.
use Rattle.std.specs.Prelude.{◌≡◌, ◌≤◌, ◌<◌, ◌^◌, true, length}
use Rattle.std.specs.List.{All}
use Rattle.store_history.specs.Pulling.{Course, Stock, Pulling, seeking, comparing, starting, reading_manifest, reading_file, opening, reading_chunk, sending_chunk, appending, closing_index, sending_blob, sending_manifest, finishing, rejecting, aborting, is_key}

-- the texts name snapshots
abbrev pub HasKeys : Course → Type 0
HasKeys c = (is_key c.snapshot ≡ true) × All (λ text. is_key text ≡ true) c.later

abbrev pub IsFew : Stock → Type 0
IsFew s = length s.names ≤ 63

-- what holds of it at each point: its snapshots are named, and files and entries are no more than there may be
abbrev pub IsFormed : Pulling → Type 0
IsFormed (seeking group) = Unit {0}
IsFormed (comparing group remote) = (length remote ≤ 4096) × All (λ text. is_key text ≡ true) remote
IsFormed (starting c) = HasKeys c
IsFormed (reading_manifest c bytes) = HasKeys c
IsFormed (reading_file c s name bytes) = HasKeys c × IsFew s
IsFormed (opening c s x) = HasKeys c × IsFew s × (length x.entries ≤ 2 ^ 20)
IsFormed (reading_chunk c s x e later) = HasKeys c × IsFew s × (length x.entries ≤ 2 ^ 20) × (length later < length x.entries)
IsFormed (sending_chunk c s x e later blob) = HasKeys c × IsFew s × (length x.entries ≤ 2 ^ 20) × (length later < length x.entries)
IsFormed (appending c s x e later) = HasKeys c × IsFew s
IsFormed (closing_index c s x) = HasKeys c × IsFew s
IsFormed (sending_blob c s name bytes) = HasKeys c × IsFew s
IsFormed (sending_manifest c s) = HasKeys c
IsFormed (finishing c) = HasKeys c
IsFormed (rejecting path) = Unit {0}
IsFormed (aborting first) = Unit {0}
