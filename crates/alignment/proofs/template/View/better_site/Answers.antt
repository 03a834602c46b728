-- `alignment::template::View::better_site` meets its contract. Assumes nothing.
use Rattle.alignment.proofs.Scores.{best_stays, site_taken}
use Rattle.alignment.specs.Template.{site_at}
use Rattle.alignment.proofs.template.View.better_site.Goals as goal

pub returns-then-score-least : goal.returns-then-score-least
unfolding site_at
returns-then-score-least c = let a = c.args in let s = a.self.now in best_stays a.best (site_at s.picture.bits.now s.picture.width s.picture.height s.transform a.c a.x a.y) _ _ c.needed-least.ensures c.score-score.ensures c.if-score-least.true

pub returns : goal.returns
unfolding site_at
returns c = let a = c.args in let s = a.self.now in site_taken a.best (site_at s.picture.bits.now s.picture.width s.picture.height s.transform a.c a.x a.y) _ _ c.needed-least.ensures c.score-score.ensures c.if-score-least.false
