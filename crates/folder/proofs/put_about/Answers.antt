-- `folder::put_about` meets its contract. Assumes nothing.
use borrow.Author.Rules.{rules}
use Rattle.folder.specs.Files.{about_text}
use Rattle.folder.proofs.put_about.Goals as goal

pub returns : goal.returns
returns c = let a = c.args in c.put_whole.ensures (about_text a.reel.now a.radius a.commit.now) (search rules)
