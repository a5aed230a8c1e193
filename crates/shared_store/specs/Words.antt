-- What an act tells of the parts that it is done on, by its family.
use Rattle.std.specs.Prelude.{Option}
use Rattle.store_history.specs.declared.act.Act.{Act}
use Rattle.store_history.specs.declared.act.Family.{Family}
use Rattle.store_history.specs.declared.act.Family.TheVariants.{Reads, Writes, Manages, Collects, Reaches, Wants, Ends}
use Rattle.store_history.specs.Acts.{family_of}
use Rattle.core_state.specs.declared.collector.Collector.{Collector}
use Rattle.core_state.specs.Tells.{Words, plain_words, untold}
use Rattle.core_reader.specs.ReaderWords.{reader_words}
use Rattle.core_writer.specs.WriterWords.{writer_words}
use Rattle.core_admin.specs.AdminActs.{admin_words}
use Rattle.core_collect.specs.Acts.{collect_words}

abbrev pub words_in : {D : Type 0} → Family → Act → Option Collector → Words D
words_in Reads act collector = reader_words act
words_in Writes act collector = writer_words act
words_in Manages act collector = admin_words act
words_in Collects act collector = collect_words act collector
words_in Reaches act collector = plain_words untold
words_in Wants act collector = plain_words untold
words_in Ends act collector = plain_words untold

-- of an act beside this collector
abbrev pub words_of : {D : Type 0} → Act → Option Collector → Words D
words_of act collector = words_in (family_of act) act collector
