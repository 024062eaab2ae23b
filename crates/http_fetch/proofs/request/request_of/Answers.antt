use Rattle.std.proofs.Common.{codes}
use Rattle.http_fetch.proofs.Replying.{in_five}
use Rattle.http_fetch.proofs.request.request_of.Goals as goal

pub returns : goal.returns
returns c =
    in_five _ _ _ _ _ (codes "GET /") c.args.name.now (codes " HTTP/1.1\r\nHost: ") c.args.host.now (codes "\r\nConnection: close\r\n\r\n")
    c.in_ok-text.ensures.ok c.in_ok-push_str.ensures.bytes c.in_ok-push_str-2.ensures.bytes c.in_ok-push_str-3.ensures.bytes c.in_ok-push_str-4.ensures.bytes
