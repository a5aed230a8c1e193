-- A sound snapshot and what is reported of it; a legal history of a lane that verifies one; and its run to its end, which tells this.
use Rattle.std.specs.Prelude.{◌≡◌, ℕ, ◌<◌, ◌==◌, true, false, List, [], ◌∷◌, ◌++◌, codes, pos, refl, replicate, nat_lt, length, None, Option, Some, ⊤}
use Rattle.std.specs.List.{All, list_all}
use Rattle.std.proofs.Common.{arith, inl, inr, take, sym, ap, ◌∙◌}
use Rattle.std.proofs.lemmas.Bool.{leb-true, ltb-true}
use Rattle.std.proofs.lemmas.List.Elements.{All-cons, All-nil, All-weaker}
use Rattle.std.proofs.lemmas.List.Sums.{AllPass-from_list_all}
use Rattle.store_types.specs.declared.names.Kind.TheVariants.{Host}
use Rattle.store_types.specs.FileNames.{manifest_name}
use Rattle.blob_codec.specs.Blob as blobs
use Rattle.store_files.specs.DynamicIndex.{Ended}
use Rattle.store_files.specs.Archive.{Archive, archive, blob, dynamic, digest_of, file_text, File, Snapshot, csum_of}
use Rattle.store_files.specs.Folder.{IsPiece}
use Rattle.store_files.specs.Manifest.{Manifest}
use Rattle.wire_commands.specs.declared.command.Command.TheVariants.{OpenReader, CloseReader, Files as FilesOf}
use Rattle.wire_commands.specs.declared.rows.FileFault.{FileFault}
use Rattle.wire_commands.specs.declared.rows.FileFault.TheVariants.{Damaged, Differs}
use Rattle.wire_commands.specs.declared.reply.Reply.{Reply}
use Rattle.wire_commands.specs.declared.reply.Reply.TheVariants.{Data, Done, Files, Verified}
use Rattle.wire_commands.proofs.Hexadecimal.{hex}
use Rattle.store_model.specs.declared.ending.Ending.TheVariants as endings
use Rattle.store_model.specs.AdminSteps.{file_rows}
use Rattle.store_model.specs.Job.{opening, over, asking}
use Rattle.store_model.specs.Stands.{FitsContent, IsSnapshot, names_content}
use Rattle.store_model.specs.WriterSteps.{part_of}
use Rattle.store_model.proofs.OnLiterals.{store_model_on_literals, digests_on_literals, manifests_on_literals}
use Rattle.store_history.specs.declared.act.Act.{Act}
use Rattle.store_history.specs.declared.act.Act.TheVariants as acts
use Rattle.store_history.specs.declared.act.Event.{Event}
use Rattle.store_history.specs.History.{Opening, act_outcome, moved, after, after_all}
use Rattle.store_history.specs.LaneRun.{text, next_at, goes_on, heard_at, heard, last_words, position_after, begin, LaneRan}
use Rattle.job_laws.specs.Others.{MayBegin, StepsTo, TellsFirst, VerifyIsNext, position_behind}
use Rattle.job_laws.specs.Verifies.{undamaged, report_of}

unfoldable on_verifies : ⊤
unfolding act_outcome moved after after_all text next_at goes_on heard_at heard last_words position_after store_model_on_literals digests_on_literals manifests_on_literals
on_verifies = tt

-- ---- a snapshot of two pieces and its manifest, by what this lists as their size

abbrev root : List ℕ
root = codes "root.didx"

-- `abc` and `de`
abbrev two_pieces : Archive
two_pieces = record { layout = dynamic; uuid = replicate 16 0; ctime = pos 7; reserved = replicate 4032 0; pieces = codes "abc" ∷ codes "de" ∷ [] }

abbrev listing : List ℕ → List ℕ
listing size =
    codes "{\"backup-id\":\"a\",\"backup-time\":1579069803,\"backup-type\":\"host\",\"files\":[{\"csum\":\""
    ++ codes "da464aae3d9f63d06f308710062b5db41996b1e36990b92ecc693440e6660151"
    ++ codes "\",\"filename\":\"root.didx\",\"size\":" ++ size ++ codes "}]}"

abbrev manifest_file : List ℕ → File
manifest_file size = record { name = manifest_name; content = blob (listing size) }

abbrev archive_file : File
archive_file = record { name = root; content = archive two_pieces }

abbrev listed_as : List ℕ → Snapshot
listed_as size = record { key = record { kind = Host; id = codes "a"; time = 1579069803 }; files = manifest_file size ∷ archive_file ∷ [] }

abbrev snapshot : Snapshot
snapshot = listed_as (codes "5")

-- ---- what is reported

whole : report_of undamaged snapshot ≡ Verified 2 2 5 []
unfolding on_verifies
whole = refl

abbrev told : FileFault → Reply
told fault = Verified 2 2 5 (record { file = root; fault = fault } ∷ [])

one_damaged : report_of (λ name place. place == 1) snapshot ≡ told (Damaged (digest_of (codes "de")))
unfolding on_verifies
one_damaged = refl

-- of two the first
two_damaged : report_of (λ name place. true) snapshot ≡ told (Damaged (digest_of (codes "abc")))
unfolding on_verifies
two_damaged = refl

-- and before them that it differs
differs_first : report_of (λ name place. true) (listed_as (codes "6")) ≡ told Differs
unfolding on_verifies
differs_first = refl

-- ---- the snapshot is sound

bytes_fit : (bytes : List ℕ) → list_all (λ b. nat_lt b 256) bytes ≡ true → All (λ b. b < 256) bytes
bytes_fit bytes h =
    All-weaker (λ b. nat_lt b 256 ≡ true) (λ b. b < 256) (λ b lt. ltb-true b 256 lt) bytes (AllPass-from_list_all (λ b. nat_lt b 256) bytes h)

both : {X : Type 0} (P : X → Type 0) (a b : X) → P a → P b → All P (a ∷ b ∷ [])
both P a b p q = All-cons P a (b ∷ []) p (All-cons P b [] q (All-nil P))

abc_is : IsPiece (codes "abc")
abc_is = (leb-true 1 3 refl, leb-true 3 blobs.data_limit refl, bytes_fit (codes "abc") refl)

de_is : IsPiece (codes "de")
de_is = (leb-true 1 2 refl, leb-true 2 blobs.data_limit refl, bytes_fit (codes "de") refl)

archive_fits : FitsContent (archive two_pieces)
unfolding on_verifies
archive_fits = (
  record {
    uuid = refl;
    ctime = record { sfits = omega arith };
    reserved = refl;
    steps = refl;
    limit = omega arith;
    digests = both (λ (e : Ended). length e.digest ≡ 32) _ _ refl refl;
  },
  both IsPiece (codes "abc") (codes "de") abc_is de_is,
)

manifest_fits : FitsContent (blob (listing (codes "5")))
unfolding on_verifies
manifest_fits = (leb-true (length (listing (codes "5"))) blobs.data_limit refl, bytes_fit (listing (codes "5")) refl)

abbrev manifest : Manifest
manifest = record { key = snapshot.key; files = record { name = root; size = 5; csum = csum_of (archive two_pieces) } ∷ [] }

is_sound : IsSnapshot snapshot
unfolding on_verifies
is_sound = record {
  key = (refl, omega arith);
  names = refl;
  kinds = both (λ (f : File). names_content f.content f.name ≡ true) (manifest_file (codes "5")) archive_file refl refl;
  contents = both (λ (f : File). FitsContent f.content) (manifest_file (codes "5")) archive_file manifest_fits archive_fits;
  manifest = (listing (codes "5"), manifest, refl, refl, omega arith, (λ name. (λ h. h, λ h. h)));
  count = omega arith;
}

-- ---- a lane verifies it

abbrev k : List ℕ
k = codes "host/a/2020-01-15T06:30:03Z"

abbrev event : Act → ℕ → Option Reply → ℕ → Event
event a kind r place = record { act = a; answer = record { reply = r; entry = record { lane = 0; moment = 5; kind = kind }; place = place; last = false }; calls = 3 }

abbrev done : Act → Reply → ℕ → Event
done a r place = event a 0 (Some r) place

abbrev files : Reply
files = Files (file_rows snapshot.files)

abbrev manifest_part : Reply
manifest_part = part_of (file_text (blob (listing (codes "5")))) 0

abbrev index_part : Reply
index_part = part_of (file_text (archive two_pieces)) 0

abbrev first : Event
first = done (acts.Plain (OpenReader k)) Done 0

abbrev steps : List Event
steps =
    done (acts.Plain (FilesOf k)) files 1 ∷ done (acts.ReadFile manifest_name 0) manifest_part 2
    ∷ done (acts.ReadFile root 0) index_part 3 ∷ done (acts.ReadChunk root 0) (Data (blobs.blob (codes "abc"))) 4
    ∷ done (acts.ReadChunk root 1) (Data (blobs.blob (codes "de"))) 5 ∷ done (acts.Plain CloseReader) Done 6 ∷ []

abbrev start : Opening
start = record { snapshots = snapshot ∷ []; moment = 4; touches = []; calls = 3; chunks = [] }

may_begin : MayBegin None start [] first steps k snapshot
unfolding on_verifies
may_begin = record {
  legal = (record { says = (refl, refl); formed = tt; inside = omega arith; place = refl; last = λ is. cc; risen = omega arith; in_time = omega arith; counted = omega arith }, (record { says = (refl, refl); formed = tt; inside = omega arith; place = refl; last = λ is. cc; risen = omega arith; in_time = omega arith; counted = omega arith }, (record { says = (refl, refl); formed = tt; inside = omega arith; place = refl; last = λ is. cc; risen = omega arith; in_time = omega arith; counted = omega arith }, (record { says = (refl, refl); formed = tt; inside = omega arith; place = refl; last = λ is. cc; risen = omega arith; in_time = omega arith; counted = omega arith }, (record { says = (refl, refl); formed = tt; inside = omega arith; place = refl; last = λ is. cc; risen = omega arith; in_time = omega arith; counted = omega arith }, (record { says = (refl, refl); formed = tt; inside = omega arith; place = refl; last = λ is. cc; risen = omega arith; in_time = omega arith; counted = omega arith }, (record { says = (refl, refl); formed = tt; inside = omega arith; place = refl; last = λ is. cc; risen = omega arith; in_time = omega arith; counted = omega arith }, tt)))))));
  order = refl;
  idle = refl;
  named = refl;
  there = refl;
  fits = is_sound;
}

abbrev report : Reply
report = Verified 2 2 5 []

steps_to : StepsTo (asking (opening k)) (first ∷ steps) (over report)
unfolding on_verifies
steps_to = (refl, refl, Done, refl, (refl, refl, files, refl, (refl, refl, manifest_part, refl, (refl, refl, index_part, refl, (refl, refl, Data (blobs.blob (codes "abc")), refl, (refl, refl, Data (blobs.blob (codes "de")), refl, (refl, refl, Done, refl, refl)))))))

abbrev bye : List ℕ
bye = hex (codes "01000000 3f")

abbrev input : List ℕ
input = hex (codes "1d000000 22 1b") ++ k ++ bye

ran : LaneRan input endings.Clean (first ∷ steps ++ event acts.End 6 None 7 ∷ []) (report ∷ Done ∷ [])
unfolding on_verifies
ran = (refl, (refl, refl), (refl, (refl, refl), (refl, (refl, refl), (refl, (refl, refl), (refl, (refl, refl), (refl, (refl, refl), (refl, (refl, refl), (refl, (refl, (λ five. cc), tt), (refl, refl)))))))))

is_next : VerifyIsNext (begin input) k
unfolding on_verifies
is_next = record { left = bye; next = refl }

-- it tells nothing before its last step
abbrev IsQuiet : List Event → Type 0
IsQuiet es = (position_behind input endings.Clean es).told ≡ []

quiet : IsQuiet (first ∷ take 0 steps) × IsQuiet (first ∷ take 1 steps) × IsQuiet (first ∷ take 2 steps)
    × IsQuiet (first ∷ take 3 steps) × IsQuiet (first ∷ take 4 steps) × IsQuiet (first ∷ take 5 steps)
unfolding on_verifies
quiet = (refl, refl, refl, refl, refl, refl)

told_last : (position_behind input endings.Clean (first ∷ steps)).told ≡ report ∷ []
unfolding on_verifies
told_last = refl

tells_first : TellsFirst endings.Clean (begin input) (first ∷ steps) report
tells_first = by_each quiet
  where
    by_each : IsQuiet (first ∷ take 0 steps) × IsQuiet (first ∷ take 1 steps) × IsQuiet (first ∷ take 2 steps)
        × IsQuiet (first ∷ take 3 steps) × IsQuiet (first ∷ take 4 steps) × IsQuiet (first ∷ take 5 steps)
        → TellsFirst endings.Clean (begin input) (first ∷ steps) report
    by_each (a, b, c, d, e, f) = (refl, inr (a, (refl, inr (b ∙ sym a, (refl, inr (c ∙ sym b, (refl, inr (d ∙ sym c, (refl, inr (e ∙ sym d, (refl, inr (f ∙ sym e, (refl, inl (told_last ∙ ap (λ rs. rs ++ report ∷ []) (sym f)))))))))))))))
