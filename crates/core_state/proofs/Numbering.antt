-- The numbers of the catalogue's snapshots, after one act more.
use Rattle.std.proofs.Common.{◌≡◌, ◌<◌, ◌≤◌, ◌+◌, ℕ, Bool, true, false, zero, suc, cond, List, [], ◌∷◌, Option, Some, None, inl, inr, ⊎_elim, refl, sym, arith}
use Rattle.std.proofs.lemmas.List.Elements.{All-cons, All-filter, All-head, All-tail, All-weaker}
use Rattle.std.proofs.lemmas.List.Kept.{AllPairs-cons, AllPairs-filter}
use Rattle.std.specs.List.{All}
use Rattle.std.specs.Prelude.{AllPairs, not}
use Rattle.store_types.specs.declared.names.SnapshotKey.{SnapshotKey}
use Rattle.store_types.specs.Names.{key_lt, key_of, same_key}
use Rattle.wire_commands.specs.declared.reply.Reply.{Reply}
use Rattle.wire_commands.specs.declared.reply.Reply.TheVariants.{Done}
use Rattle.store_history.specs.declared.act.Act.{Act}
use Rattle.store_history.specs.Profile.{OnList, same_list, lists, takes_out, profile}
use Rattle.core_state.specs.declared.kept.Listed.{Listed}
use Rattle.core_state.specs.declared.kept.Session.{Session}
use Rattle.core_state.specs.declared.kept.Session.TheVariants.{Idle, Writer, Reader}
use Rattle.core_state.specs.Catalogue.{closed, closed_by, forgotten_by, insert_listed, listed_by, listed_of, listed_on, without_listed, without_named}
use Rattle.core_state.specs.Kept.{KeptAt}
use Rattle.core_state.specs.Numbers.{AreNumbered, DifferInNumber, IsGiven, first_number}

-- ---- one snapshot more

pub all_insert : (P : Listed → Type 0) (new : Listed) (xs : List Listed) → P new → All P xs → All P (insert_listed new xs)
all_insert P new [] p all = All-cons P new [] p all
all_insert P new (x ∷ xs) p all = by_test (key_lt (new.kept).key (x.kept).key) (all_insert P new xs p (All-tail P x xs all))
  where
    by_test : (b : Bool) → All P (insert_listed new xs) → All P (cond b (new ∷ x ∷ xs) (x ∷ insert_listed new xs))
    by_test true later = All-cons P new (x ∷ xs) p all
    by_test false later = All-cons P x (insert_listed new xs) (All-head P x xs all) later

pub head_differs : (x : Listed) (xs : List Listed) → AllPairs DifferInNumber (x ∷ xs) → All (DifferInNumber x) xs
head_differs x xs pairs k d within = pairs zero (suc k) d (omega arith) (omega (arith, within))

pub tail_differs : (x : Listed) (xs : List Listed) → AllPairs DifferInNumber (x ∷ xs) → AllPairs DifferInNumber xs
tail_differs x xs pairs i j d lt within = pairs (suc i) (suc j) d (omega (arith, lt)) (omega (arith, within))

pub pairs_insert : (new : Listed) (xs : List Listed) → All (DifferInNumber new) xs → AllPairs DifferInNumber xs → AllPairs DifferInNumber (insert_listed new xs)
pairs_insert new [] apart pairs = AllPairs-cons DifferInNumber new [] apart pairs
pairs_insert new (x ∷ xs) apart pairs =
    by_test (key_lt (new.kept).key (x.kept).key) (pairs_insert new xs (All-tail (DifferInNumber new) x xs apart) (tail_differs x xs pairs))
  where
    back : DifferInNumber x new
    back e = All-head (DifferInNumber new) x xs apart (sym e)

    by_test : (b : Bool) → AllPairs DifferInNumber (insert_listed new xs) → AllPairs DifferInNumber (cond b (new ∷ x ∷ xs) (x ∷ insert_listed new xs))
    by_test true later = AllPairs-cons DifferInNumber new (x ∷ xs) apart pairs
    by_test false later = AllPairs-cons DifferInNumber x (insert_listed new xs) (all_insert (DifferInNumber x) new xs back (head_differs x xs pairs)) later

-- ---- one act more

module _ (acts : ℕ) (few : acts < first_number) (xs : List Listed) (h : AreNumbered acts xs) where
  given_later : (x : Listed) → IsGiven acts x → IsGiven (acts + 1) x
  given_later x is = ⊎_elim {C = IsGiven (acts + 1) x} (λ (lt : x.number < acts). inl (omega (arith, lt))) (λ found. inr found) is

  later : AreNumbered (acts + 1) xs
  later = record { given = All-weaker (IsGiven acts) (IsGiven (acts + 1)) given_later xs h.given; once = h.once }

  -- none that is given has this number
  unused : (new : Listed) → new.number ≡ acts → (x : Listed) → IsGiven acts x → DifferInNumber new x
  unused new is x given e =
      ⊎_elim {C = ⊥} (λ (lt : x.number < acts). omega (arith, lt, e, is)) (λ (found : first_number ≤ x.number). omega (arith, found, e, is, few)) given

  inserted : (new : Listed) → new.number ≡ acts → AreNumbered (acts + 1) (insert_listed new xs)
  inserted new is = record {
    given = all_insert (IsGiven (acts + 1)) new xs (inl (omega (arith, is))) later.given;
    once = pairs_insert new xs (All-weaker (IsGiven acts) (DifferInNumber new) (unused new is) xs h.given) h.once;
  }

  taken_out : (key : SnapshotKey) → AreNumbered (acts + 1) (without_listed key xs)
  taken_out key = record {
    given = All-filter (λ (x : Listed). not (same_key (x.kept).key key)) (IsGiven (acts + 1)) xs later.given;
    once = AllPairs-filter DifferInNumber (λ (x : Listed). not (same_key (x.kept).key key)) xs h.once;
  }

  by_session : (session : Session) → AreNumbered (acts + 1) (closed acts session xs)
  by_session Idle = later
  by_session (Writer w) = inserted (listed_of acts w) refl
  by_session (Reader r) = later

  by_finish : (session : Session) (reply : Option Reply) → AreNumbered (acts + 1) (closed_by reply acts session xs)
  by_finish session None = later
  by_finish session (Some Done) = by_session session
  by_finish session (Some reply) = later

  by_key : (named : Option SnapshotKey) → AreNumbered (acts + 1) (without_named named xs)
  by_key None = later
  by_key (Some key) = taken_out key

  by_forget : (text : List ℕ) (reply : Option Reply) → AreNumbered (acts + 1) (forgotten_by text reply xs)
  by_forget text None = later
  by_forget text (Some Done) = by_key (key_of text)
  by_forget text (Some reply) = later

-- a FINISH gives the number of its entry's place
pub numbered_by : (acts : ℕ) → acts < first_number → (k : KeptAt) → AreNumbered acts k.catalogue → (act : Act) (reply : Option Reply) → AreNumbered (acts + 1) (listed_by act reply acts k)
numbered_by acts few k h act reply = by_list (profile act).list
  where
    by_list : (list : OnList) → AreNumbered (acts + 1) (listed_on list reply acts k)
    by_list same_list = later acts few k.catalogue h
    by_list lists = by_finish acts few k.catalogue h k.session reply
    by_list (takes_out text) = by_forget acts few k.catalogue h text reply
