use Rattle.std.proofs.Common.{inr, refl, subst, ◌∙◌}
use Rattle.disk_trait.specs.Effects.{LeavesBy, StepsOn}
use Rattle.file_install.specs.Install.{Installs, OkInstalls}
use Rattle.store_history.specs.Saved.{book_name}
use Rattle.chunk_store.proofs.DiskCalls.{none_is}
use Rattle.core_state.specs.Saving.{text_of_book}
use Rattle.core_state.proofs.SavingBook.{saves_book}
use Rattle.core_state.proofs.state.Core.save_book.Goals as goal

pub returns-in_err-text-clause-unchanged : goal.returns-in_err-text-clause-unchanged
returns-in_err-text-clause-unchanged g c =
    let d = g.D.Disk in let m = g.met.D.Disk in
    λ _. (λ honest. refl, none_is d.calls d.images d.honest m.told c.args.self.now.parts.disk, refl)

pub returns-clause-crash : goal.returns-clause-crash
returns-clause-crash g c =
    let d = g.D.Disk in
    inr (subst (λ bytes. StepsOn d c.args.self.now.parts.disk c.install.new.disk (Installs (d.content c.args.self.now.parts.disk) book_name bytes)) (c.as_slice.ensures.value ∙ c.in_ok-text.ensures.text) c.install.ensures.crash)

pub returns-clause-history : goal.returns-clause-history
returns-clause-history g c =
    let d = g.D.Disk in
    let bytes = c.as_slice.ensures.value ∙ c.in_ok-text.ensures.text in
    let crash : LeavesBy d c.args.self.now.parts.disk c.install.new.disk (Installs (d.content c.args.self.now.parts.disk) book_name (text_of_book c.args.self.now)) =
    inr (subst (λ b. StepsOn d c.args.self.now.parts.disk c.install.new.disk (Installs (d.content c.args.self.now.parts.disk) book_name b)) bytes c.install.ensures.crash) in
    let put : OkInstalls d c.args.self.now.parts.disk c.install.new.disk book_name (text_of_book c.args.self.now) c.install.result =
    subst (λ b. OkInstalls d c.args.self.now.parts.disk c.install.new.disk book_name b c.install.result) bytes c.install.ensures.installed in
    saves_book d c.args.self.now _ c.install.result c.install.ensures.serves
    (record { clock = refl; journal = refl; upkeep = refl; collector = refl; last = refl; fault = refl; remote = refl; catalogue = refl; sessions = refl; locks = refl; indexes = refl })
    crash put (c.in_ok-text.ensures.fits (record { touches = c.requires.early; in_time = c.args.self.now.in_time })) c.install.ensures.unchanged
