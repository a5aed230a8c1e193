-- What an example unfolds to compute these definitions on literals.
use Rattle.std.specs.Prelude.{⊤}
use Rattle.std.specs.Str.{is_utf8, chars}
use Rattle.serde_json.proofs.OnLiterals.{serde_json_on_literals}
use Rattle.hex.proofs.OnLiterals.{hex_on_literals}
use Rattle.sha2.specs.Sha256.{sha256, first_words, schedule, rounds, compress, hash_after, digest_bytes}
use Rattle.sha1.specs.Sha1 as sha1_
use Rattle.store_types.proofs.OnLiterals.{store_types_on_literals}
use Rattle.store_files.proofs.OnLiterals.{store_files_on_literals}
use Rattle.wire_commands.proofs.OnLiterals.{wire_commands_on_literals}
use Rattle.store_model.specs.Load as load_
use Rattle.store_model.specs.Heads as heads_
use Rattle.store_model.specs.WriterSteps as writer_
use Rattle.store_model.specs.Manifests as manifests_
use Rattle.store_model.specs.Archives as archives_
use Rattle.store_model.specs.WriterCalls as calls_
use Rattle.store_model.specs.ArchiveSteps as archive_
use Rattle.store_model.specs.ReaderSteps as reader_
use Rattle.prune_rules.specs.Prune as prune_
use Rattle.store_model.specs.AdminSteps as admin_
use Rattle.store_model.specs.PruneJob as prunejob_
use Rattle.store_model.specs.VerifyJob as verifyjob_
use Rattle.store_model.specs.SyncJob as syncjob_
use Rattle.store_model.specs.Jobs as jobs_
use Rattle.store_model.specs.Steps as steps_
use Rattle.store_model.specs.Lanes as lanes_
use Rattle.store_model.specs.Weave as weave_

unfoldable pub store_model_on_literals : ⊤
unfolding store_types_on_literals store_files_on_literals wire_commands_on_literals heads_.key_in heads_.group_in heads_.after_in heads_.idle_in heads_.idle_key heads_.idle_group writer_.goes_on writer_.open_writer writer_.previous writer_.checked_blob writer_.put_blob writer_.finish writer_.abort manifests_.listing_of manifests_.finish_check archives_.uuid_of archives_.free_from archives_.piece_named archives_.pieces_named calls_.new_fixed calls_.new_dynamic calls_.append calls_.close_index archive_.new_fixed archive_.new_dynamic archive_.check_chunk archive_.checked_chunk archive_.put_chunk archive_.append archive_.close_index reader_.open_reader reader_.download reader_.get_chunk reader_.range_of reader_.range reader_.read_file reader_.read_chunk reader_.close_reader prune_.month_of prune_.year_of prune_.greatest prune_.marks admin_.list admin_.files admin_.want_free admin_.forget admin_.group admin_.prune_group prunejob_.rows_meant prunejob_.go_on prunejob_.grouped prunejob_.forgot verifyjob_.fixed_judged verifyjob_.dynamic_judged verifyjob_.blob_judged verifyjob_.judged verifyjob_.next_file verifyjob_.file_done verifyjob_.next_chunk verifyjob_.file_read verifyjob_.opened verifyjob_.listed verifyjob_.part_read verifyjob_.read_part verifyjob_.checked syncjob_.to_pull syncjob_.appends syncjob_.file_commands syncjob_.uploads syncjob_.commands_of syncjob_.next_snapshot syncjob_.next_command syncjob_.begun syncjob_.replied jobs_.take jobs_.job_after steps_.outcome steps_.step lanes_.command_next lanes_.front_next lanes_.lane_next lanes_.next_beside lanes_.next_of weave_.with_store weave_.tell weave_.go_on weave_.answer_job weave_.answer weave_.begin_sync weave_.want_collector weave_.open_collector weave_.close_collector weave_.stepped weave_.passed weave_.short weave_.opens weave_.closes weave_.told_fault weave_.faulted weave_.end_session weave_.ended_with weave_.unread weave_.ends weave_.remote_failed weave_.entered weave_.run_from weave_.woven weave_.weave
store_model_on_literals = tt

-- digests
unfoldable pub digests_on_literals : ⊤
unfolding hex_on_literals sha256 first_words schedule rounds compress hash_after digest_bytes
digests_on_literals = tt

-- the identifiers in index files
unfoldable pub uuids_on_literals : ⊤
unfolding sha1_.sha1 sha1_.first_words sha1_.schedule sha1_.rounds sha1_.compress sha1_.hash_after sha1_.digest_bytes
uuids_on_literals = tt

-- the reading of a manifest
unfoldable pub manifests_on_literals : ⊤
unfolding serde_json_on_literals hex_on_literals is_utf8 chars
manifests_on_literals = tt

-- the reading of a datastore
unfoldable pub loading_on_literals : ⊤
unfolding serde_json_on_literals is_utf8 chars load_.piece_in load_.content_in load_.files_in load_.snapshot_in load_.entry_snapshot load_.in_order load_.snapshots_in load_.load
loading_on_literals = tt
