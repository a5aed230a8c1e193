-- What the journal takes.
use Rattle.std.specs.Prelude.{◌≡◌, ◌≤◌, ◌⊎◌, ℕ, Bool, true, false, not, List, String}
use Rattle.std.specs.declared.alloc.Global.{Global}
use Rattle.port_traits.specs.declared.sink.Sink as sinks
use Rattle.port_traits.specs.Bytes.{Writes}
use Rattle.port_traits.specs.Faults.{Rose}
use Rattle.store_files.specs.Order.{order_text}
use Rattle.pbs_server.specs.declared.served.Served.{Served}
use Rattle.pbs_server.specs.Statuses.{beside_sink}
use Rattle.pbs_server.specs.Words.{AsksOrder, IsUnread}

-- a text, whole unless the journal failed, which is said only where its count of faults rose
pub record TakesText {J : Type 0} (sink : sinks.Ghosts J) (old new : J) (text : List ℕ) (failed : Bool) : Type 0 where
  pub bytes : Writes (sink.taken old) (sink.taken new) text (not failed)
  pub cause : failed ≡ true → Rose (sink.faults old) (sink.faults new)
  pub later : sink.faults old ≤ sink.faults new

-- where the journal failed, its fault is told unless what comes before it is
abbrev pub told_with : {D E : Type 0} → Bool → Served D E → Served D E
told_with false served = served
told_with true served = record served { status = beside_sink served.status; report = record served.report { journal_failed = true } }

-- It takes the order's text where the words ask for it, unless memory was wanting to read them, and else it is as it was.
abbrev pub TellsOrder : {D E J : Type 0} → sinks.Ghosts J → List (String Global) → ℕ → J → J → Served D E → Type 0
TellsOrder sink words ports old new result =
    (AsksOrder words ports × TakesText sink old new (order_text (result.order).items) (result.report).journal_failed)
    ⊎ ((AsksOrder words ports → IsUnread result) × (new ≡ old) × ((result.report).journal_failed ≡ false))
