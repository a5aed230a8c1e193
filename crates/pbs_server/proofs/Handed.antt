-- The program's call where the sessions of the ports were served, and their order was told or not.
use Rattle.std.proofs.Common.{◌≡◌, ◌≤◌, inl, inr, ℕ, Bool, true, false, List, ap, subst, arith}
use Rattle.std.specs.Prelude.{String}
use Rattle.std.specs.declared.alloc.Global.{Global}
use Rattle.command_line.specs.Reading.{texts}
use Rattle.store_model.specs.Store.{lane_count}
use Rattle.pbs_server.specs.declared.served.Served.{Served}
use Rattle.pbs_server.specs.declared.status.Status.{Status}
use Rattle.pbs_server.specs.declared.status.Status.TheVariants as statuses
use Rattle.pbs_server.specs.Headline.{AsksNone}
use Rattle.pbs_server.specs.Journal.{told_with}
use Rattle.pbs_server.specs.Statuses.{beside_sink}
use Rattle.pbs_server.specs.Words.{AsksRun, AsksTooMany, IsMisused, TellsJust}
use Rattle.pbs_server.proofs.Words.{run_check}

-- ---- the words are not the cause, and stay none where the journal failed

beside_asks : (s : Status) → (AsksNone s → ⊥) → AsksNone (beside_sink s) → ⊥
beside_asks statuses.SinkFault not asks = not asks
beside_asks statuses.SourceTooLong not (inl is) = cc
beside_asks statuses.SourceTooLong not (inr is) = cc
beside_asks statuses.BadOrder not (inl is) = cc
beside_asks statuses.BadOrder not (inr is) = cc
beside_asks statuses.BadFrame not (inl is) = cc
beside_asks statuses.BadFrame not (inr is) = cc
beside_asks statuses.Unequal not (inl is) = cc
beside_asks statuses.Unequal not (inr is) = cc
beside_asks statuses.Ok not (inl is) = cc
beside_asks statuses.Ok not (inr is) = cc
beside_asks statuses.Usage not asks = not asks
beside_asks statuses.DiskFault not asks = not asks
beside_asks statuses.SourceFault not asks = not asks
beside_asks statuses.NoMemory not asks = not asks
beside_asks statuses.TooManyLanes not asks = not asks
beside_asks statuses.RemoteFault not asks = not asks

pub told_asks : {D E : Type 0} (failed : Bool) (served result : Served D E) → result ≡ told_with failed served → (AsksNone served.status → ⊥) → AsksNone result.status → ⊥
told_asks false served result is not asks = not (subst AsksNone (ap (λ r. r.status) is) asks)
told_asks true served result is not asks = beside_asks served.status not (subst AsksNone (ap (λ r. r.status) is) asks)

-- ---- of a run

module _ (words : List (String Global)) (ports : ℕ) (w : Bool) (asks : AsksRun (texts words) ports w × (ports ≤ lane_count)) {D E : Type 0} (result : Served D E) (not : AsksNone result.status → ⊥) where
  pub usage_run : TellsJust result statuses.Usage (IsMisused words ports)
  usage_run = (λ is. absurd (not (inl is)), λ misused. absurd (misused (inl (w, asks.0))))

  pub many_run : TellsJust result statuses.TooManyLanes (AsksTooMany words ports)
  many_run = (λ is. absurd (not (inr is)), λ many. absurd (few many))
    where
      few : AsksTooMany words ports → ⊥
      few (inl many) = let most = asks.1 in let more = many.1 in omega (arith, most, more)
      few (inr many) = run_check (texts words) ports w asks.0 many.0
