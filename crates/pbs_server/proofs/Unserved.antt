-- The program's call where the words are why no session is served, or memory was wanting to read them.
use Rattle.disk_trait.specs.declared.disk.Disk.{Ghosts}
use Rattle.std.proofs.Common.{◌≡◌, ◌≢◌, ◌↔◌, ◌⊎◌, inl, inr, ℕ, true, false, List, [], Option, None, Err, IfSome, refl, sym, ap, subst, ◌∙◌, arith}
use Rattle.std.specs.Prelude.{IsSome, String}
use Rattle.std.specs.declared.alloc.Global.{Global}
use Rattle.port_traits.specs.declared.sink.Sink as sinks
use Rattle.core_opening.specs.declared.opening.OpenFault.{OpenFault}
use Rattle.snapshot_files.specs.Leaving.{MayClean}
use Rattle.command_line.specs.Reading.{texts}
use Rattle.pbs_server.specs.declared.served.Served.{Served}
use Rattle.pbs_server.specs.declared.status.Status.{Status}
use Rattle.pbs_server.specs.declared.status.Status.TheVariants as statuses
use Rattle.pbs_server.specs.Headline.{AsksNone, HasNotServed, StopsUnserved}
use Rattle.pbs_server.specs.Journal.{TellsOrder}
use Rattle.pbs_server.specs.Statuses.{status_of_opening}
use Rattle.pbs_server.specs.Words.{Answers, AsksOrder, AsksTooMany, IsAnything, IsCheck, IsMisused, IsTooMany, IsUnread, TellsJust}
use Rattle.pbs_server.proofs.Checked.{unequal_none}
use Rattle.pbs_server.proofs.Words.{run_check}

-- a status that comes of the words
abbrev pub IsUnasked : Status → Type 0
IsUnasked s = AsksNone s ⊎ (s ≡ statuses.NoMemory)

unasked_is : (words : List (List ℕ)) (ports : ℕ) (s : Status) → Answers words ports (Err s) → IsUnasked s
unasked_is words ports statuses.Usage a = inl (inl refl)
unasked_is words ports statuses.TooManyLanes a = inl (inr refl)
unasked_is words ports statuses.NoMemory a = inr refl
unasked_is words ports other a = absurd a

-- words of too many sessions have a reading
has_reading : (words : List (List ℕ)) (ports : ℕ) → IsTooMany words ports → IsAnything words ports
has_reading words ports (inl many) = inl many.0
has_reading words ports (inr many) = inr (inr many.0)

-- none tells that replies differ
unasked_equal : (s : Status) → IsUnasked s → s ≢ statuses.Unequal
unasked_equal s (inl (inl is)) differ = cc
unasked_equal s (inl (inr is)) differ = cc
unasked_equal s (inr is) differ = cc

unasked_fault : (s : Status) → IsUnasked s → s ≡ statuses.DiskFault → ⊥
unasked_fault s (inl (inl is)) fault = cc
unasked_fault s (inl (inr is)) fault = cc
unasked_fault s (inr is) fault = cc

-- what is told of a call that served none
pub record Unserved {D E : Type 0} (s : Status) (disk : D) (remote : Option E) (result : Served D E) : Type 0 where
  pub status : result.status ≡ s
  pub not_opened : (result.report).not_opened ≡ None
  pub not_saved : (result.report).not_saved ≡ None
  pub order : (result.order).items ≡ []
  pub lanes : ((result.report).lanes).items ≡ []
  pub calls : ((result.report).calls).items ≡ []
  pub journal : (result.report).journal_failed ≡ false
  pub unequal : (result.report).unequal ≡ None
  pub disk_is : result.disk ≡ disk
  pub remote_is : result.remote ≡ remote

pub unserved_by : {D E : Type 0} (s : Status) (disk : D) (remote : Option E) (result : Served D E) → result.status ≡ s → (result.report).not_opened ≡ None → (result.report).not_saved ≡ None
    → (result.order).items ≡ [] → ((result.report).lanes).items ≡ [] → ((result.report).calls).items ≡ [] → (result.report).journal_failed ≡ false → (result.report).unequal ≡ None
    → result.disk ≡ disk → result.remote ≡ remote → Unserved s disk remote result
unserved_by s disk remote result status not_opened not_saved order lanes calls journal unequal disk_is remote_is = record {
  status = status;
  not_opened = not_opened;
  not_saved = not_saved;
  order = order;
  lanes = lanes;
  calls = calls;
  journal = journal;
  unequal = unequal;
  disk_is = disk_is;
  remote_is = remote_is;
}

module _ (words : List (String Global)) (ports : ℕ) (s : Status) (answers : Answers (texts words) ports (Err s)) {D E : Type 0} (disk : D) (remote : Option E) (result : Served D E)
    (u : Unserved s disk remote result) where
  unread : result.status ≡ statuses.NoMemory → IsUnread result
  unread is = record { status = is; lanes = u.lanes; not_opened = u.not_opened }

  pub usage_unserved : TellsJust result statuses.Usage (IsMisused words ports)
  usage_unserved = by s answers u.status
    where
      by : (t : Status) → Answers (texts words) ports (Err t) → result.status ≡ t → TellsJust result statuses.Usage (IsMisused words ports)
      by statuses.Usage a is = (λ usage. a, λ misused. inl is)
      by statuses.TooManyLanes a is = (λ usage. let bad : statuses.Usage ≡ statuses.TooManyLanes = sym usage ∙ is in cc, λ misused. absurd (misused (has_reading (texts words) ports a)))
      by statuses.NoMemory a is = (λ usage. let bad : statuses.Usage ≡ statuses.NoMemory = sym usage ∙ is in cc, λ misused. inr (unread is))
      by other a is = absurd a

  pub many_unserved : TellsJust result statuses.TooManyLanes (AsksTooMany words ports)
  many_unserved = by s answers u.status
    where
      by : (t : Status) → Answers (texts words) ports (Err t) → result.status ≡ t → TellsJust result statuses.TooManyLanes (AsksTooMany words ports)
      by statuses.Usage a is = (λ told. let bad : statuses.TooManyLanes ≡ statuses.Usage = sym told ∙ is in cc, λ many. absurd (a (has_reading (texts words) ports many)))
      by statuses.TooManyLanes a is = (λ told. a, λ many. inl is)
      by statuses.NoMemory a is = (λ told. let bad : statuses.TooManyLanes ≡ statuses.NoMemory = sym told ∙ is in cc, λ many. inr (unread is))
      by other a is = absurd a

  pub unequal_unserved : IsSome (result.report).unequal ↔ (result.status ≡ statuses.Unequal)
  unequal_unserved =
      unequal_none (result.report).unequal result.status u.unequal
      (unasked_equal result.status (subst IsUnasked (sym u.status) (unasked_is (texts words) ports s answers)))

  -- memory was wanting to read a check's words
  pub check_unserved : IsCheck words ports → IsUnread result
  check_unserved check = by s answers u.status
    where
      by : (t : Status) → Answers (texts words) ports (Err t) → result.status ≡ t → IsUnread result
      by statuses.Usage a is = absurd (a (inr (inr check.0)))
      by statuses.TooManyLanes (inl many) is = absurd (run_check (texts words) ports (many.0).0 (many.0).1 check.0)
      by statuses.TooManyLanes (inr many) is = absurd (let few = check.1 in let more = many.1 in omega (arith, few, more))
      by statuses.NoMemory a is = unread is
      by other a is = absurd a

  pub leaves_unserved : {P : Type 0} (d : Ghosts D) (same : List P) → HasNotServed d disk remote same same result
  leaves_unserved d same =
      let is : IsUnasked result.status = subst IsUnasked (sym u.status) (unasked_is (texts words) ports s answers) in
      record {
        status = by_words is;
        order = u.order;
        calls = u.calls;
        not_saved = u.not_saved;
        ports = refl;
        remote_is = u.remote_is;
        disk_is = λ asks. u.disk_is;
        serves = record {
          kept = subst (λ x. d.honest disk ↔ d.honest x) (sym u.disk_is) (λ h. h, λ h. h);
          count = let e = ap d.faults u.disk_is in omega (arith, e);
          cause = λ fault. absurd (unasked_fault result.status is fault);
        };
        stops = subst (StopsUnserved d disk result.disk) (sym u.not_opened) u.disk_is;
        why = subst (λ (o : Option OpenFault). IfSome o (λ fault. result.status ≡ status_of_opening fault)) (sym u.not_opened) tt;
        left = λ honest calm. subst (λ x. MayClean (d.content disk) (d.content disk) (d.content x)) (sym u.disk_is) (λ q. inl refl);
      }
    where
      by_words : IsUnasked result.status → AsksNone result.status ⊎ ((result.status ≡ statuses.NoMemory) ⊎ (result.status ≡ statuses.DiskFault))
      by_words (inl asks) = inl asks
      by_words (inr short) = inr (inl short)

  pub journal_unserved : {J : Type 0} (sink : sinks.Ghosts J) (journal : J) → TellsOrder sink words ports journal journal result
  journal_unserved sink journal = inr (λ asks. by s answers u.status asks, refl, u.journal)
    where
      by : (s : Status) → Answers (texts words) ports (Err s) → result.status ≡ s → AsksOrder words ports → IsUnread result
      by statuses.Usage a is asks = absurd (a (inl (true, asks.0)))
      by statuses.TooManyLanes (inl many) is asks = absurd (let few = asks.1 in let more = many.1 in omega (arith, few, more))
      by statuses.TooManyLanes (inr many) is asks = absurd (run_check (texts words) ports true asks.0 many.0)
      by statuses.NoMemory a is asks = unread is
      by other a is asks = absurd a
