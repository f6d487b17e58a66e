-- How a server is set up where it names nothing else.
use Rattle.std.specs.Prelude.{◌^◌, Some, None, false}
use Rattle.ssh_wire.specs.Methods.{server_methods}
use Rattle.ssh_handler.specs.declared.config.Config.{Config}

abbrev pub standard_config : Config
standard_config = record {
  methods = server_methods;
  auth_rejection_time = 1000;
  auth_rejection_time_initial = None;
  limits = record {
    rekey_write_limit = 2 ^ 30;
    rekey_read_limit = 2 ^ 30;
    rekey_time_limit = 3600000;
  };
  window_size = 2097152;
  maximum_packet_size = 32768;
  channel_buffer_size = 100;
  event_buffer_size = 10;
  max_auth_attempts = 10;
  inactivity_timeout = Some 600000;
  keepalive_interval = None;
  keepalive_max = 3;
  nodelay = false;
}
