use Rattle.client.proofs.laws.laws.Goals as goal

pub returns-clause-roots : goal.returns-clause-roots
returns-clause-roots c = record {
  next = c.chains_go_on.ensures.next;
  named = c.chains_go_on.ensures.named;
  newest = c.chains_go_on.ensures.newest;
  taken = c.roots_are_taken.ensures;
  chain = c.one_chain.ensures;
}

pub returns-clause-steps : goal.returns-clause-steps
returns-clause-steps c = record { valid = c.stays_valid.ensures.steps; offers = c.one_judgement.ensures.offers; puts = c.one_judgement.ensures.puts }

pub returns-clause-news : goal.returns-clause-news
returns-clause-news c = record {
  once = c.names_find.ensures.once;
  stamp_named = c.names_find.ensures.timestamps;
  snapshot_named = c.names_find.ensures.snapshots;
  role_named = c.names_find.ensures.roles;
  timestamps = c.accepts_new.ensures.timestamps;
  snapshots = c.accepts_new.ensures.snapshots;
  targets = c.accepts_new.ensures.targets;
  blobs = c.accepts_new.ensures.blobs;
}

pub returns-clause-grants : goal.returns-clause-grants
returns-clause-grants c = record {
  once = c.one_judgement.ensures.targets;
  granted = c.granted_blobs.ensures.granted;
  listed_once = c.granted_blobs.ensures.listed_once;
  put = c.offers_tell.ensures.targets;
  put_same = c.offers_tell.ensures.same;
  same = c.missed_files.ensures.same;
  roles = c.missed_files.ensures.roles;
  blobs = c.missed_files.ensures.blobs;
  proper = c.missed_files.ensures.proper;
  missed = c.missed_documents.ensures;
  names = c.snapshot_names.ensures.names;
  asks_once = c.names_undo.ensures.asks_once;
  asked_by_some = c.names_undo.ensures.asked_by_some;
}
