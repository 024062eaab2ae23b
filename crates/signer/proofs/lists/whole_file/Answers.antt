use Rattle.keys_roles.specs.Views.{entries_view}
use Rattle.signer.proofs.JoinedFiles.{put_together}
use Rattle.signer.proofs.lists.whole_file.Goals as goal

pub returns : goal.returns
returns c =
    put_together (entries_view c.args.entries.now) (entries_view c.args.further.now) c.args.signed.now c.in_ok-out.out.items c.put_missing.new.out.items c.put_missing-2.new.out.items c.cut_comma.new.out.items
    c.extend_from_slice.new.self.items c.extend_from_slice-2.new.self.items c.extend_from_slice-3.new.self.items
    c.in_ok-out.ensures.items c.in_ok-put_missing.ensures c.in_ok-put_missing-2.ensures c.cut_comma.ensures.comma c.cut_comma.ensures.other
    c.in_ok-extend_from_slice.ensures.items c.in_ok-extend_from_slice-2.ensures.items c.in_ok-extend_from_slice-3.ensures.items
