use Rattle.slnf_local.proofs.Following.{followed_first, followed_tells, followed_expects, followed_step, followed_next, followed_from, followed_later, followed_end}
use Rattle.slnf_local.proofs.Walks.{outcome_tells}
use Rattle.slnf_local.proofs.laws.followers_tell.Goals as goal

pub returns : goal.returns
returns c c' = record {
  begin = followed_first;
  expects = λ s es f e k actor hand h at held w. (
    followed_tells s es f e k actor hand h at held w,
    followed_expects s es f e k actor hand h at held w,
  );
  step = followed_step;
  next = followed_next;
  earlier = followed_from;
  later = followed_later;
  end = followed_end;
  pass = outcome_tells;
}
